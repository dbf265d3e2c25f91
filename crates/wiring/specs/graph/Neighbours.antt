-- Neighbours, and the wiring call: one 64-bit word for each expander.
use Rattle.std.specs.Prelude.{ℕ, ◌+◌, ◌^◌, ◌≡◌, Bool, ◌||◌, ◌&&◌, List, [], ◌∷◌, map, length, eqb, leb}
use Rattle.std.specs.Int.Count.{ones}
use Rattle.frames.specs.Refusals.{Result, good, unless, then, refusal, new_after}
use Rattle.files.specs.declared.Setting.{Setting}
use Rattle.files.specs.Lists.{up_to, any, keep}
use Rattle.files.specs.Domain.{Domain, expander_at, address_of, to_expander}
use Rattle.wiring.specs.phys.PhyCauses.{wired}

-- a phy of expander i bears type 2 or 3 and expander j's address
unfoldable pub cabled : Domain → ℕ → ℕ → Bool
cabled d i j = any (λ φ. to_expander φ && eqb (address_of φ) (expander_at d j).address) (expander_at d i).phys

-- "neighbours": a phy of one bears the other's address
unfoldable pub neighbours : Domain → ℕ → ℕ → Bool
neighbours d i j = cabled d i j || cabled d j i

-- bit j of a set is worth 2 to the power j
unfoldable pub set_of : List ℕ → ℕ
set_of [] = 0
set_of (j ∷ js) = 2 ^ j + set_of js

-- the word of expander i
unfoldable pub neighbour_word : Domain → ℕ → ℕ
neighbour_word d i = set_of (keep (neighbours d i) (up_to (length d)))

-- one word for each expander
unfoldable pub neighbour_words : Domain → List ℕ
neighbour_words d = map (neighbour_word d) (up_to (length d))

-- how many bits are set in all
unfoldable pub bits_in : List ℕ → ℕ
bits_in [] = 0
bits_in (w ∷ ws) = ones w + bits_in ws

-- the words, where they fit: 16 otherwise
abbrev pub words_for : ℕ → Domain → Result (List ℕ)
words_for room d = unless (leb (length d) room) (refusal 16 0 0) (good (neighbour_words d))

-- the wiring call on a file under a setting, with room for so many words
unfoldable pub wiring_call : Setting → List ℕ → ℕ → Result (List ℕ)
wiring_call setting file room = then (wired setting file) (words_for room)

-- what the wiring call answers: how many bits are set in all
abbrev pub bits_set : List ℕ → Result ℕ
bits_set ws = good (bits_in ws)

-- all that a wiring call with this outcome promises: the answer, and the lent words after
pub record WiringDone (outcome : Result (List ℕ)) (answer : Result ℕ) (before after : List ℕ) : Type 0 where
  pub answers : answer ≡ then outcome bits_set
  pub words : after ≡ new_after outcome before
