-- Rounds over sets of expanders held as 64-bit words: how causes 11, 12 and 23 are decided.
use Rattle.std.specs.Prelude.{ℕ, zero, suc, ◌/◌, ◌%◌, ◌^◌, ◌≤◌, ◌<◌, ◌≡◌, Bool, cond, ◌||◌, ◌&&◌, List, length, get_or, eqb, leb}
use Rattle.std.specs.Int.Bits.{bit_and}
use Rattle.std.specs.Int.Count.{ones}
use Rattle.files.specs.Lists.{up_to, keep, is_in}
use Rattle.files.specs.Domain.{Domain}
use Rattle.wiring.specs.graph.Graph.{stays, near}
use Rattle.wiring.specs.graph.Neighbours.{neighbours, set_of, neighbour_word}

-- bit j of a word is set
abbrev pub has_bit : ℕ → ℕ → Bool
has_bit w j = eqb (w / 2 ^ j % 2) 1

-- the numbers below n in a set
unfoldable pub members : ℕ → ℕ → List ℕ
members n w = keep (has_bit w) (up_to n)

-- a word that holds numbers below n only
abbrev pub SetBelow : ℕ → ℕ → Type 0
SetBelow n w = w ≡ set_of (members n w)

-- one word for each of n expanders
pub record WordEach (n : ℕ) (f : ℕ → ℕ) (words : List ℕ) : Type 0 where
  pub enough : n ≤ length words
  pub word : (v : ℕ) → v < n → get_or words v 0 ≡ f v

-- one neighbour word for each expander
abbrev pub NeighbourWordsHeld : Domain → List ℕ → Type 0
NeighbourWordsHeld d words = WordEach (length d) (neighbour_word d) words

-- whether v belongs to the next set, in a round of causes 11 and 23 (an expander that stays) or 12 (one that is reached)
unfoldable pub round_test : ℕ → ℕ → (ℕ → ℕ → Bool) → List ℕ → ℕ → Bool
round_test k n adj l v = cond (eqb k 11) (is_in v l && stays n adj l v) (near n adj l v)

-- whether v belongs to the next set, by its neighbour word and the set as words
unfoldable pub next_test : ℕ → ℕ → ℕ → ℕ → Bool
next_test k word set v =
    cond (eqb k 11)
    (has_bit set v && (has_bit word v || leb 2 (ones (bit_and set word))))
    (has_bit set v || leb 1 (ones (bit_and set word)))

-- the next set
abbrev pub next_set : ℕ → ℕ → (ℕ → ℕ → Bool) → List ℕ → List ℕ
next_set k n adj l = keep (round_test k n adj l) (up_to n)

-- so many rounds
unfoldable pub rounds : ℕ → ℕ → (ℕ → ℕ → Bool) → ℕ → List ℕ → List ℕ
rounds k n adj zero l = l
rounds k n adj (suc count) l = rounds k n adj count (next_set k n adj l)

-- the next set of expanders, as a word
abbrev pub round_set : Domain → ℕ → ℕ → ℕ
round_set d k set = set_of (next_set k (length d) (neighbours d) (members (length d) set))

-- a set after so many rounds
pub record RoundsRun (d : Domain) (k count set after : ℕ) : Type 0 where
  pub below : SetBelow (length d) after
  pub run : members (length d) after ≡ rounds k (length d) (neighbours d) count (members (length d) set)
