-- A bit replaced in a byte, and among bytes.
use Prim.Native.Nat.{ℕ, zero, suc, ◌+◌, ◌*◌, ◌/◌, ◌%◌, ◌-◌, ◌^◌, ◌≤◌, ◌<◌}
use mathlib.Core.Path.{◌≡◌, sym, ◌∙◌, ap, subst}
use mathlib.Core.List.{List, [], ◌∷◌}
use native.Mathlib.Omega.{arith}
use native.Mathlib.Numerals.{add-one}
use native.Mathlib.Nat.{mod-lt, mul-le-mul_right, add_comm}
use lib.Bits.{bit_and, and_high}
use lib.Pow.{pow_pos, pow-add, split, mod-pow-add, shr_lt}
use lib.ListN.{length, get_or, set}
use lib.Seq.{set-append_left}
use Rattle.frames.specs.Bits.{number_bits, bits_of, with_bit}
use Rattle.frames.proofs.PackedBits.{pow-suc, length-number_bits}
use Rattle.frames.proofs.NumberBits.{bit-set, low_lt}
use Rattle.frames.proofs.PackedRows.{set_past}

-- a number by a bit and what stands around it
parts : (v k : ℕ) → v ≡ with_bit v k (v / 2 ^ k % 2)
parts v k =
    let p = split v (suc k) in
    let e : suc k ≡ 1 + k = omega arith in
    let q : v % 2 ^ suc k ≡ (v / 2 ^ k % 2) * 2 ^ k + v % 2 ^ k = ap (λ (n : ℕ). v % 2 ^ n) e ∙ mod-pow-add v 1 k in
    omega arith

-- the mask of one bit
bit_and_lem : (v n : ℕ) → bit_and v (2 ^ n) ≡ (v / 2 ^ n % 2) * 2 ^ n
bit_and_lem v n =
    let e : 2 ^ (1 + n) - 2 ^ n ≡ 2 ^ n = omega (arith, pow-suc n, ap (λ (k : ℕ). 2 ^ k) (add_comm 1 n ∙ add-one n)) in
    ap (bit_and v) (sym e) ∙ and_high v 1 n

-- one bit's worth is at most the mask
pub bit_worth : (m b : ℕ) → b < 2 → b * m ≤ m
bit_worth m b h = let k : b ≤ 1 = omega arith in let e : b * m ≤ 1 * m = mul-le-mul_right m k in omega arith

-- a byte from which a bit is taken by its mask, and the other put in its place
pub with_is : (v m b n : ℕ) → m ≡ 2 ^ n → v - bit_and v m + b * m ≡ with_bit v n b
with_is v m b n e =
    let p = parts v n in
    let q = bit_and_lem v n in
    rw e (omega (arith, p, q))

with_bit-set : (v r b : ℕ) → r < 8 → b < 2 → number_bits 8 (with_bit v (7 - r) b) ≡ set (number_bits 8 v) r b
with_bit-set v r b h k =
    let n : ℕ = 7 - r in
    let e : r + suc (7 - r) ≡ 8 = omega arith in
    let m = mod-lt v {m = 2 ^ n} (pow_pos n) in
    let s = bit-set r n (v / 2 ^ suc n) b (v / 2 ^ n % 2) (v % 2 ^ n) k (omega arith) m in
    let t : set (number_bits 8 (with_bit v n (v / 2 ^ n % 2))) r b ≡ set (number_bits 8 v) r b =
    ap (λ (x : ℕ). set (number_bits 8 x) r b) (sym (parts v n)) in
    (rw e at s) ∙ t

-- and it is a byte
pub with_bit_lt : (v r b : ℕ) → v < 256 → r < 8 → b < 2 → with_bit v (7 - r) b < 256
with_bit_lt v r b l h k =
    let n : ℕ = 7 - r in
    let e : r + suc n ≡ 8 = omega arith in
    let p : 2 ^ r * 2 ^ suc n ≡ 256 = sym (pow-add 2 r (suc n)) ∙ ap (λ (x : ℕ). 2 ^ x) e in
    let hi : v / 2 ^ suc n < 2 ^ r = shr_lt r (suc n) (subst (λ (x : ℕ). v < x) (sym (ap (λ (x : ℕ). 2 ^ x) e)) l) in
    let lo = low_lt n b (v % 2 ^ n) k (mod-lt v {m = 2 ^ n} (pow_pos n)) in
    let q : suc (v / 2 ^ suc n) * 2 ^ suc n ≤ 2 ^ r * 2 ^ suc n = mul-le-mul_right (2 ^ suc n) hi in
    omega arith

-- a bit of bytes replaced
pub bits-set : (s : List ℕ) (j r b : ℕ) → j < length s → r < 8 → b < 2 → bits_of (set s j (with_bit (get_or s j 0) (7 - r) b)) ≡ set (bits_of s) (8 * j + r) b
unfolding bits_of
bits-set [] j r b i h k = absurd (omega arith)
bits-set (v ∷ s) zero r b i h k =
    let l = length-number_bits 8 v in
    let f : 0 + r ≡ r = omega arith in
    rw (f, with_bit-set v r b h k) (sym (set-append_left (number_bits 8 v) (bits_of s) r b (omega arith)))
bits-set (v ∷ s) (suc j) r b i h k =
    let l = length-number_bits 8 v in
    rw (bits-set s j r b (omega arith) h k) (sym (set_past (number_bits 8 v) (bits_of s) (8 * j + r) (8 * suc j + r) b (omega arith)))
