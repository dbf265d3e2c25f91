-- Words as sets of bits: the numbers below n of which a test holds, and how many bits the neighbour words have in all.
use mathlib.Core.Path.{◌≡◌, refl, sym, ap, ap₂, ◌∙◌}
use mathlib.Core.Logic.{by_cases}
use mathlib.Core.List.{List, [], ◌∷◌, ◌++◌, map, flat_map}
use mathlib.Core.Bool.{Bool, true, false, cond, ◌&&◌}
use Prim.Native.Nat.{ℕ, zero, suc, ◌+◌, ◌-◌, ◌*◌, ◌/◌, ◌%◌, ◌^◌, ◌≤◌, ◌<◌}
use native.Mathlib.Decide.{ℕ_discrete}
use native.Mathlib.Nat.{pow-suc, mod-eq_of_lt}
use native.Mathlib.Numerals.{add-one}
use native.Mathlib.Omega.{arith}
use lib.ListN.{length, length-append}
use lib.Pow.{high, low, field, mod-mod-pow}
use lib.Bits.{bit_and, and_mask, and_block, and_self, and_zero_l, and_zero_r}
use lib.Count.{ones, ones_cat}
use Rattle.files.specs.Lists.{numbers, up_to, keep}
use Rattle.files.specs.Domain.{Domain}
use Rattle.wiring.specs.graph.Neighbours.{neighbours, set_of, neighbour_word, neighbour_words, bits_in}
use Rattle.files.proofs.ListMembers.{by-test, keep_append, up_to-last}

-- bit j is set for the j below n of which the test holds
unfoldable pub word_below : (ℕ → Bool) → ℕ → ℕ
word_below t zero = 0
word_below t (suc n) = cond (t n) (2 ^ n) 0 + word_below t n

-- one bit
abbrev pub bit_of : Bool → ℕ
bit_of b = cond b 1 0

bit_worth : (b : Bool) (x : ℕ) → cond b x 0 ≡ bit_of b * x
bit_worth true x = omega arith
bit_worth false x = omega arith

-- the highest bit, and the word of those downstream of it
pub word-top : (t : ℕ → Bool) (n : ℕ) → word_below t (suc n) ≡ bit_of (t n) * 2 ^ n + word_below t n
unfolding word_below
word-top t n = ap (λ (x : ℕ). x + word_below t n) (bit_worth (t n) (2 ^ n))

bit_le : (b : Bool) (x : ℕ) → cond b x 0 ≤ x
bit_le true x = omega arith
bit_le false x = omega arith

pub word_lt : (t : ℕ → Bool) (n : ℕ) → word_below t n < 2 ^ n
unfolding word_below
word_lt t zero = omega arith
word_lt t (suc n) = omega (arith, pow-suc 2 n, word_lt t n, bit_le (t n) (2 ^ n))

-- a turn of a loop that sets a bit, and one that does not
pub word_set : (t : ℕ → Bool) (n : ℕ) → t n ≡ true → word_below t (n + 1) ≡ word_below t n + 2 ^ n
unfolding word_below
word_set t n q = rw (add-one, q) (omega arith)

pub word_skip : (t : ℕ → Bool) (n : ℕ) → t n ≡ false → word_below t (n + 1) ≡ word_below t n
unfolding word_below
word_skip t n q = rw (add-one, q) (omega arith)

-- a set is the word of its test
pub set_of-append : (l m : List ℕ) → set_of (l ++ m) ≡ set_of l + set_of m
unfolding set_of
set_of-append [] m = omega arith
set_of-append (j ∷ l) m = omega (arith, set_of-append l m)

pub set_word : (t : ℕ → Bool) (n : ℕ) → set_of (keep t (numbers 0 n)) ≡ word_below t n
unfolding word_below set_of keep numbers
set_word t zero = refl
set_word t (suc n) =
    ap (λ l. set_of (keep t l)) (up_to-last n)
    ∙ ap set_of (keep_append t (numbers 0 n) (n ∷ []))
    ∙ set_of-append (keep t (numbers 0 n)) (keep t (n ∷ []))
    ∙ by-test (t n) (λ q. rw q (omega (arith, set_word t n))) (λ q. rw q (omega (arith, set_word t n)))

-- how many bits are set
pub ones_bit : (b : Bool) → ones (bit_of b) ≡ bit_of b
unfolding ones
ones_bit true = refl
ones_bit false = refl

pub length-keep : (t : ℕ → Bool) (n : ℕ) → length (keep t (numbers 0 (suc n))) ≡ bit_of (t n) + length (keep t (numbers 0 n))
unfolding keep
length-keep t n =
    ap (λ l. length (keep t l)) (up_to-last n)
    ∙ ap length (keep_append t (numbers 0 n) (n ∷ []))
    ∙ length-append (keep t (numbers 0 n)) (keep t (n ∷ []))
    ∙ by-test (t n) (λ q. rw q (omega arith)) (λ q. rw q (omega arith))

pub ones_word : (t : ℕ → Bool) (n : ℕ) → ones (word_below t n) ≡ length (keep t (numbers 0 n))
unfolding word_below ones keep numbers
ones_word t zero = refl
ones_word t (suc n) =
    ap ones (word-top t n)
    ∙ ones_cat n (bit_of (t n)) (word_below t n) (word_lt t n)
    ∙ ap₂ (λ (x y : ℕ). x + y) (ones_bit (t n)) (ones_word t n)
    ∙ sym (length-keep t n)

-- what is in both
and_bit : (a b : Bool) → bit_and (bit_of a) (bit_of b) ≡ bit_of (a && b)
and_bit true true = and_self 1
and_bit true false = and_zero_r 1
and_bit false b = and_zero_l (bit_of b)

pub and_word : (s t : ℕ → Bool) (n : ℕ) → bit_and (word_below s n) (word_below t n) ≡ word_below (λ j. s j && t j) n
unfolding word_below
and_word s t zero = and_zero_l 0
and_word s t (suc n) =
    ap₂ bit_and (word-top s n) (word-top t n)
    ∙ and_block n (bit_of (s n)) (bit_of (t n)) (word_below s n) (word_below t n) (word_lt s n) (word_lt t n)
    ∙ ap₂ (λ (x y : ℕ). x * 2 ^ n + y) (and_bit (s n) (t n)) (and_word s t n)
    ∙ sym (word-top (λ j. s j && t j) n)

-- the lowest k bits
pub word_low : (t : ℕ → Bool) (n k : ℕ) → k ≤ n → word_below t n % 2 ^ k ≡ word_below t k
word_low t zero k h = let e : 0 ≡ k = omega arith in ap (λ v. word_below t v % 2 ^ k) e ∙ mod-eq_of_lt (word_lt t k)
word_low t (suc n) k h = by_cases (ℕ_discrete (suc n) k)
    (λ e. ap (λ v. word_below t v % 2 ^ k) e ∙ mod-eq_of_lt (word_lt t k))
    (λ e. let x = bit_of (t n) * 2 ^ n + word_below t n in
    let q : n - k + k ≡ n = omega arith in
    ap (λ (v : ℕ). v % 2 ^ k) (word-top t n)
    ∙ sym (mod-mod-pow x (n - k) k)
    ∙ ap (λ (v : ℕ). x % 2 ^ v % 2 ^ k) q
    ∙ ap (λ (v : ℕ). v % 2 ^ k) (low (bit_of (t n)) n (word_lt t n))
    ∙ word_low t n k (omega arith))

-- one bit, tested
pub word-bit : (t : ℕ → Bool) (n j : ℕ) → j < n → bit_and (word_below t n / 2 ^ j) 1 ≡ bit_of (t j)
word-bit t n j h =
    let e : 1 + j ≡ suc j = omega arith in
    and_mask (word_below t n / 2 ^ j) 1
    ∙ sym (field (word_below t n) 1 j)
    ∙ ap (λ (v : ℕ). word_below t n % 2 ^ v / 2 ^ j) e
    ∙ ap (λ (v : ℕ). v / 2 ^ j) (word_low t n (suc j) h ∙ word-top t j)
    ∙ high (bit_of (t j)) j (word_lt t j)

-- the neighbour words
pub neighbour_word_lem : (d : Domain) (i : ℕ) → neighbour_word d i ≡ word_below (neighbours d i) (length d)
unfolding neighbour_word
neighbour_word_lem d i = set_word (neighbours d i) (length d)

-- as many bits in all as there are ordered pairs of neighbours
pub count_pairs : (d : Domain) → bits_in (neighbour_words d) ≡ length (flat_map (λ i. keep (neighbours d i) (up_to (length d))) (up_to (length d)))
unfolding neighbour_words bits_in flat_map
count_pairs d = go (up_to (length d))
  where
    go : (l : List ℕ) → bits_in (map (neighbour_word d) l) ≡ length (flat_map (λ i. keep (neighbours d i) (up_to (length d))) l)
    go [] = refl
    go (i ∷ l) =
        let a = ap ones (neighbour_word_lem d i) ∙ ones_word (neighbours d i) (length d) in
        let b = length-append (keep (neighbours d i) (up_to (length d))) (flat_map (λ i. keep (neighbours d i) (up_to (length d))) l) in
        omega (arith, a, b, go l)
