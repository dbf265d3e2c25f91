-- A number's digits are those of the definitions.
use Prim.Native.Nat.{ℕ, zero, suc, ◌-◌, ◌^◌, ◌/◌, ◌%◌, ◌≤◌, ◌<◌}
use mathlib.Core.Path.{◌≡◌, refl, sym, ◌∙◌, ap}
use mathlib.Core.Bool.{Bool, true, false, cond}
use mathlib.Core.List.{[], ◌∷◌, ◌++◌}
use mathlib.Core.Logic.{by_cases}
use native.Mathlib.Decide.{ℕ_discrete, dec_lt}
use native.Mathlib.Omega.{arith}
use native.Mathlib.Nat.{pow-le-pow_right}
use lib.ListN.{length, length-append}
use lib.Dec.{leb}
use borrow.Author.Tests.{leb-true, leb-false}
use Rattle.io.specs.Digits.{hex_digit_ascii, last_digits, IsDigitCount}
use Rattle.listing.specs.Text.{tens, decimal_of, hex_of, field_of, entry_of, line_of}

length_digits : (b k n : ℕ) → length (last_digits b k n) ≡ k
length_digits b zero n = refl
length_digits b (suc k) n = length-append (last_digits b k (n / b)) (hex_digit_ascii (n % b) ∷ []) ∙ omega (arith, length_digits b k (n / b))

tens-most : (k n : ℕ) → tens k n ≤ k
unfolding tens
tens-most zero n = omega arith
tens-most (suc k) n = go (leb (10 ^ suc k) n) (tens-most k n)
  where
    go : (b : Bool) → tens k n ≤ k → cond b (suc k) (tens k n) ≤ suc k
    go true h = omega arith
    go false h = omega arith

higher : (b m n : ℕ) → 0 < b → m ≤ n → b ^ m ≤ b ^ n
higher b m n p h = pow-le-pow_right p h

-- how many digits a number takes at most
pub digits_few : (b least most n k : ℕ) → 0 < b → least ≤ most → IsDigitCount b least n k → n < b ^ most → k ≤ most
digits_few b least most n k p l f h =
    by_cases (dec_lt most k) (λ g. omega (arith, f.2 (omega arith), higher b most (k - 1) p (omega arith))) (λ g. omega arith)

tens-is : (j i n : ℕ) → i ≤ j → (0 < i → 10 ^ i ≤ n) → n < 10 ^ suc i → tens j n ≡ i
unfolding tens
tens-is zero i n h f g = omega arith
tens-is (suc j) i n h f g = go (leb (10 ^ suc j) n) refl (tens-is j i n)
  where
    go : (b : Bool) → leb (10 ^ suc j) n ≡ b → (i ≤ j → (0 < i → 10 ^ i ≤ n) → n < 10 ^ suc i → tens j n ≡ i) → cond b (suc j) (tens j n) ≡ i
    go true q r =
        by_cases (ℕ_discrete i (suc j)) (λ e. sym e)
        (λ ne. omega (arith, leb-true (10 ^ suc j) n q, higher 10 (suc i) (suc j) (omega arith) (omega arith)))
    go false q r =
        by_cases (ℕ_discrete i (suc j)) (λ e. omega (arith, leb-false (10 ^ suc j) n q, rw e at (f (omega arith))))
        (λ ne. r (omega arith) f g)

pub decimal_is : (n k : ℕ) → IsDigitCount 10 1 n k → k ≤ 20 → last_digits 10 k n ≡ decimal_of n
unfolding decimal_of
decimal_is n k h most =
    let e : suc (k - 1) ≡ k = omega arith in
    let t : tens 19 n ≡ k - 1 = tens-is 19 (k - 1) n (omega arith) (λ z. h.2 (omega arith)) (rw e h.1) in
    ap (λ (m : ℕ). last_digits 10 m n) (sym (ap suc t ∙ e))

pub hex_is : (n k : ℕ) → 16 ≤ k → k ≤ 16 → last_digits 16 k n ≡ hex_of n
unfolding hex_of
hex_is n k h most = let e : k ≡ 16 = omega arith in rw e

-- how long the parts of a line are
pub decimal_short : (n : ℕ) → length (decimal_of n) ≤ 20
unfolding decimal_of
decimal_short n = omega (arith, length_digits 10 (suc (tens 19 n)) n, tens-most 19 n)

pub hex_short : (w : ℕ) → length (hex_of w) ≡ 16
unfolding hex_of
hex_short w = length_digits 16 16 w

pub field-short : (n after : ℕ) → length (field_of n after) ≤ 21
unfolding field_of
field-short n after = omega (arith, length-append (decimal_of n) (after ∷ []), decimal_short n)

pub entry-short : (w : ℕ) → length (entry_of w) ≡ 17
unfolding entry_of
entry-short w = length-append (hex_of w) (10 ∷ []) ∙ omega (arith, hex_short w)

pub line_short : (i p k w : ℕ) → length (line_of i p k w) ≤ 80
unfolding line_of
line_short i p k w =
    let a = field-short i 32 in
    let b = field-short p 32 in
    let c = field-short k 32 in
    let e = entry-short w in
    let f = length-append (field_of i 32) (field_of p 32 ++ (field_of k 32 ++ entry_of w)) in
    let g = length-append (field_of p 32) (field_of k 32 ++ entry_of w) in
    let h = length-append (field_of k 32) (entry_of w) in
    omega arith
