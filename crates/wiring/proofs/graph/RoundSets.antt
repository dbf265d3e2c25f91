-- Rounds over sets: the words that the code holds are the lists of the definitions.
use Prim.Native.Nat.{ℕ, zero, suc, ◌+◌, ◌-◌, ◌/◌, ◌^◌, ◌≤◌, ◌<◌}
use mathlib.Core.Path.{◌≡◌, refl, sym, ◌∙◌, ap, ap₂}
use mathlib.Core.Bool.{Bool, true, false, cond, ◌||◌, ◌&&◌}
use mathlib.Core.List.{List, [], ◌∷◌}
use native.Mathlib.Omega.{arith}
use lib.ListN.{length}
use lib.Dec.{eqb, leb}
use lib.Bits.{bit_and, and_mask}
use lib.Count.{ones}
use lib.Pow.{pow_pos, ones_split, ones_lt, high}
use native.Mathlib.Nat.{pow-suc}
use borrow.Author.Tests.{eq-eqb, ne_eqb, le-leb}
use Rattle.files.specs.Lists.{numbers, up_to, any, keep, is_in}
use Rattle.files.specs.Domain.{Domain}
use Rattle.wiring.specs.graph.Graph.{two, is_nil, stays, strip, loopfree, near, reach}
use Rattle.wiring.specs.graph.Neighbours.{neighbours, set_of, neighbour_word}
use Rattle.frames.specs.Refusals.{Result, refused, good, refusal}
use Rattle.wiring.specs.graph.LinkCauses.{joined, joined_in}
use Rattle.wiring.specs.graph.Rounds.{RoundsRun, has_bit, members, SetBelow, round_test, next_test, next_set, rounds}
use Rattle.files.proofs.ListMembers.{by-test, any_same, keep-keep, keep_same, is_in-keep, is_in-of, in_up_to, numbers-below, same_test, is_true}
use Rattle.wiring.proofs.graph.WordSets.{word_below, bit_of, set_word, ones_word, and_word, word-bit, neighbour_word_lem}
use Rattle.wiring.proofs.phys.WiredPhys.{adj_symmetric}

bit-one : (b : Bool) → eqb (bit_of b) 1 ≡ b
bit-one true = refl
bit-one false = refl

-- a bit of a set is its test
pub has-bit : (t : ℕ → Bool) (n j : ℕ) → j < n → has_bit (word_below t n) j ≡ t j
has-bit t n j h = ap (λ (x : ℕ). eqb x 1) (sym (and_mask (word_below t n / 2 ^ j) 1) ∙ word-bit t n j h) ∙ bit-one (t j)

pub set-bit : (t : ℕ → Bool) (n j : ℕ) → j < n → has_bit (set_of (keep t (up_to n))) j ≡ t j
set-bit t n j h = ap (λ (x : ℕ). has_bit x j) (set_word t n) ∙ has-bit t n j h

-- the members of a set that a test gives
pub members-set : (t : ℕ → Bool) (n : ℕ) → members n (set_of (keep t (up_to n))) ≡ keep t (up_to n)
unfolding members
members-set t n =
    keep_same (has_bit (set_of (keep t (up_to n)))) t (up_to n)
    (λ w h. set-bit t n w (numbers-below n w h))

-- such a set holds numbers below n only
pub set_below : (t : ℕ → Bool) (n : ℕ) → SetBelow n (set_of (keep t (up_to n)))
set_below t n = sym (ap set_of (members-set t n))

-- a set is the word of its bits
word_of : (n w : ℕ) → SetBelow n w → w ≡ word_below (has_bit w) n
unfolding members
word_of n w s = s ∙ set_word (has_bit w) n

pub in_members : (n w v : ℕ) → v < n → is_in v (members n w) ≡ has_bit w v
unfolding members
in_members n w v h =
    is_in-keep (has_bit w) v (up_to n) ∙ ap (λ (b : Bool). b && has_bit w v) (is_true (is_in v (up_to n)) (is_in-of v (up_to n) (in_up_to n v h)))

-- the neighbours of v in a set, counted
pub count_in_lem : (d : Domain) (set v : ℕ) → SetBelow (length d) set
    → ones (bit_and set (neighbour_word d v)) ≡ length (keep (neighbours d v) (members (length d) set))
unfolding members
count_in_lem d set v s =
    let n = length d in
    ap ones (ap₂ bit_and (word_of n set s) (neighbour_word_lem d v) ∙ and_word (has_bit set) (neighbours d v) n)
    ∙ ones_word (λ j. has_bit set j && neighbours d v j) n
    ∙ sym (ap length (keep-keep (neighbours d v) (has_bit set) (up_to n)))

two-counted : (l : List ℕ) → two l ≡ leb 2 (length l)
two-counted [] = refl
two-counted (x ∷ []) = refl
two-counted (x ∷ y ∷ l) = sym (le-leb 2 (suc (suc (length l))) (omega arith))

any-counted : (f : ℕ → Bool) (l : List ℕ) → any f l ≡ leb 1 (length (keep f l))
unfolding any keep
any-counted f [] = refl
any-counted f (x ∷ l) = by-test (f x) (λ e. rw e (sym (le-leb 1 (suc (length (keep f l))) (omega arith)))) (λ e. rw e (any-counted f l))

-- the code's test is the definition's
pub next-test : (d : Domain) (k word set v : ℕ) → v < length d → SetBelow (length d) set → word ≡ neighbour_word d v
    → next_test k word set v ≡ round_test k (length d) (neighbours d) (members (length d) set) v
unfolding next_test round_test
next-test d k word set v h s q =
    let n = length d in
    let l = members n set in
    let i : has_bit set v ≡ is_in v l = sym (in_members n set v h) in
    let o : has_bit word v ≡ neighbours d v v = ap (λ (x : ℕ). has_bit x v) (q ∙ neighbour_word_lem d v) ∙ has-bit (neighbours d v) n v h in
    let c : ones (bit_and set word) ≡ length (keep (neighbours d v) l) = ap (λ (x : ℕ). ones (bit_and set x)) q ∙ count_in_lem d set v s in
    let t : leb 2 (ones (bit_and set word)) ≡ two (keep (neighbours d v) l) = ap (leb 2) c ∙ sym (two-counted (keep (neighbours d v) l)) in
    let a : leb 1 (ones (bit_and set word)) ≡ any (λ j. neighbours d j v) l =
    ap (leb 1) c ∙ sym (any-counted (neighbours d v) l)
    ∙ any_same (neighbours d v) (λ j. neighbours d j v) l (λ j. same_test _ _ (adj_symmetric d v j) (adj_symmetric d j v)) in
    ap₂ (cond (eqb k 11)) (ap₂ ◌&&◌ i (ap₂ ◌||◌ o t)) (ap₂ ◌||◌ i a)

module _ (n : ℕ) (adj : ℕ → ℕ → Bool) where
  -- rounds of cause 11 strip a set
  pub rounds-strip : (t : ℕ → Bool) (count : ℕ) → rounds 11 n adj count (keep t (up_to n)) ≡ strip n adj count (keep t (up_to n))
  unfolding rounds strip round_test
  rounds-strip t zero = refl
  rounds-strip t (suc count) =
      let l = keep t (up_to n) in
      let e : keep (round_test 11 n adj l) (up_to n) ≡ keep (λ v. t v && stays n adj l v) (up_to n) =
      keep_same (round_test 11 n adj l) (λ v. t v && stays n adj l v) (up_to n)
      (λ v h. ap (λ (b : Bool). b && stays n adj l v)
      (is_in-keep t v (up_to n) ∙ ap (λ (b : Bool). b && t v) (is_true (is_in v (up_to n)) (is_in-of v (up_to n) h)))) in
      ap (rounds 11 n adj count) e ∙ rounds-strip (λ v. t v && stays n adj l v) count
      ∙ ap (strip n adj count) (sym (keep-keep (stays n adj l) t (up_to n)))

  -- rounds of cause 12 reach out from a set
  pub rounds-reach : (count : ℕ) (l : List ℕ) → rounds 12 n adj count l ≡ reach n adj count l
  unfolding rounds reach round_test
  rounds-reach zero l = refl
  rounds-reach (suc count) l = rounds-reach count (keep (near n adj l) (up_to n))

-- all numbers below n
pub keep_all : (l : List ℕ) → keep (λ v. true) l ≡ l
unfolding keep
keep_all [] = refl
keep_all (x ∷ l) = ap (λ m. x ∷ m) (keep_all l)

-- a turn of the loop over rounds
pub rounds-next : (k n count i : ℕ) (adj : ℕ → ℕ → Bool) (l v : List ℕ) → rounds k n adj (count - i) l ≡ v → i < count
    → rounds k n adj (count - (i + 1)) (next_set k n adj l) ≡ v
unfolding rounds
rounds-next k n count i adj l v e h = let q : count - i ≡ suc (count - (i + 1)) = omega arith in sym (ap (λ (m : ℕ). rounds k n adj m l) q) ∙ e

pub rounds-end : (k n count i : ℕ) (adj : ℕ → ℕ → Bool) (l v : List ℕ) → rounds k n adj (count - i) l ≡ v → count ≤ i → l ≡ v
unfolding rounds
rounds-end k n count i adj l v e h = let q : count - i ≡ 0 = omega arith in sym (ap (λ (m : ℕ). rounds k n adj m l) q) ∙ e

-- all n bits of a word of 64
word-all : (n : ℕ) → word_below (λ v. true) n ≡ 2 ^ n - 1
unfolding word_below
word-all zero = refl
word-all (suc n) = omega (arith, word-all n, pow-suc 2 n, pow_pos n)

pub set_all : (n : ℕ) → set_of (up_to n) ≡ 2 ^ n - 1
set_all n = ap set_of (sym (keep_all (up_to n))) ∙ set_word (λ v. true) n ∙ word-all n

pub all-shifted : (n : ℕ) → n ≤ 64 → 18446744073709551615 / 2 ^ (64 - n) ≡ set_of (up_to n)
all-shifted n h =
    let e : n + (64 - n) ≡ 64 = omega arith in
    ap (λ (m : ℕ). (2 ^ m - 1) / 2 ^ (64 - n)) (sym e)
    ∙ ap (λ (m : ℕ). m / 2 ^ (64 - n)) (ones_split n (64 - n))
    ∙ high (2 ^ n - 1) (64 - n) (ones_lt (64 - n))
    ∙ sym (set_all n)

set-none : set_of [] ≡ 0
unfolding set_of
set-none = refl

set-some : (x : ℕ) (l : List ℕ) → set_of (x ∷ l) ≡ 0 → ⊥
unfolding set_of
set-some x l e = omega (arith, pow_pos x)

-- a set without members is 0
pub empty-set : (n w : ℕ) → SetBelow n w → eqb w 0 ≡ is_nil (members n w)
empty-set n w s = go (members n w) s
  where
    go : (l : List ℕ) → w ≡ set_of l → eqb w 0 ≡ is_nil l
    go [] e = eq-eqb w 0 (e ∙ set-none)
    go (x ∷ l) e = ne_eqb w 0 (λ q. set-some x l (sym e ∙ q))

-- what rounds of cause 11 leave of all expanders
pub left-members : (d : Domain) (count after : ℕ) → RoundsRun d 11 count (set_of (up_to (length d))) after
    → members (length d) after ≡ strip (length d) (neighbours d) count (up_to (length d))
left-members d count after r =
    let n = length d in
    let a = neighbours d in
    let k : up_to n ≡ keep (λ v. true) (up_to n) = sym (keep_all (up_to n)) in
    let m : members n (set_of (up_to n)) ≡ up_to n = ap (λ l. members n (set_of l)) k ∙ members-set (λ v. true) n ∙ sym k in
    r.run ∙ ap (rounds 11 n a count) (m ∙ k) ∙ rounds-strip n a (λ v. true) count ∙ ap (strip n a count) (sym k)

-- cause 11 decided by a word
pub loopfree-word : (d : Domain) (after : ℕ) → RoundsRun d 11 (length d) (set_of (up_to (length d))) after → eqb after 0 ≡ loopfree (length d) (neighbours d)
loopfree-word d after r = empty-set (length d) after r.below ∙ ap is_nil (left-members d (length d) after r)

-- how many members a set has
pub members-count : (n w : ℕ) → SetBelow n w → ones w ≡ length (members n w)
unfolding members
members-count n w s = ap ones (word_of n w s) ∙ ones_word (has_bit w) n

-- how many are left, for cause 23
pub left-count : (d : Domain) (count after : ℕ) → RoundsRun d 11 count (set_of (up_to (length d))) after
    → ones after ≡ length (strip (length d) (neighbours d) count (up_to (length d)))
left-count d count after r = members-count (length d) after r.below ∙ ap length (left-members d count after r)

-- the set of expander 0
first-only : (n : ℕ) → 0 < n → keep (λ v. eqb v 0) (up_to n) ≡ 0 ∷ []
unfolding keep numbers
first-only zero h = absurd (omega arith)
first-only (suc n) h = ap (λ l. 0 ∷ l) (none n 1 (omega arith))
  where
    none : (n i : ℕ) → 1 ≤ i → keep (λ v. eqb v 0) (numbers i n) ≡ []
    none zero i l = refl
    none (suc n) i l = rw (ne_eqb i 0 (λ q. omega arith)) (none n (i + 1) (omega arith))

first-set : set_of (0 ∷ []) ≡ 1
unfolding set_of
first-set = refl

pub first_below : (n : ℕ) → 0 < n → SetBelow n 1
first_below n h =
    let e : set_of (keep (λ v. eqb v 0) (up_to n)) ≡ 1 = ap set_of (first-only n h) ∙ first-set in
    rw e at (set_below (λ v. eqb v 0) n)

-- cause 12 decided by a word
pub joined-bit : (d : Domain) (after i : ℕ) → RoundsRun d 12 (length d) 1 after → i < length d → has_bit after i ≡ joined d i
unfolding joined
joined-bit d after i r h =
    let n = length d in
    let a = neighbours d in
    let z : 0 < n = omega arith in
    let e : set_of (keep (λ v. eqb v 0) (up_to n)) ≡ 1 = ap set_of (first-only n z) ∙ first-set in
    let m : members n 1 ≡ 0 ∷ [] = ap (members n) (sym e) ∙ members-set (λ v. eqb v 0) n ∙ first-only n z in
    let s : members n after ≡ reach n a n (0 ∷ []) = r.run ∙ ap (rounds 12 n a n) m ∙ rounds-reach n a n (0 ∷ []) in
    sym (in_members n after i h) ∙ ap (is_in i) s

-- a turn of the loop over expanders that refuses, one that goes on, and the end
module _ (d : Domain) (n i : ℕ) {v : Result Domain} (inv : joined_in (numbers i (n - i)) d ≡ v) where
  joined-next : i < n → joined_in (numbers i (n - i)) d ≡ cond (joined d i) (joined_in (numbers (i + 1) (n - (i + 1))) d) (refused (refusal 12 i 0))
  unfolding joined_in numbers
  joined-next h = let q : n - i ≡ suc (n - (i + 1)) = omega arith in rw q

  pub joined-stop : joined d i ≡ false → i < n → refused (refusal 12 i 0) ≡ v
  joined-stop q h = sym (joined-next h ∙ rw q) ∙ inv

  pub joined-go : joined d i ≡ true → i < n → joined_in (numbers (i + 1) (n - (i + 1))) d ≡ v
  joined-go q h = sym (joined-next h ∙ rw q) ∙ inv

  pub joined_end : n ≤ i → good d ≡ v
  unfolding joined_in numbers
  joined_end h = let q : n - i ≡ 0 = omega arith in sym (rw q) ∙ inv

-- the set of all expanders, as a word
pub all-below : (n : ℕ) → SetBelow n (set_of (up_to n))
all-below n = rw (keep_all (up_to n)) at (set_below (λ v. true) n)

-- whether v belongs to the next set, by what its tests answer
pub next-by : (k word set v : ℕ) {a b c : Bool} → eqb k 11 ≡ a → has_bit set v ≡ b → has_bit word v ≡ c
    → next_test k word set v ≡ cond a (b && (c || leb 2 (ones (bit_and set word)))) (b || leb 1 (ones (bit_and set word)))
unfolding next_test
next-by k word set v p q r = rw (p, q, r)
