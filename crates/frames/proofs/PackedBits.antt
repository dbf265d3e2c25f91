-- Bits of numbers, of bytes and of packed rows, one by one; and what reading a bit does.
use Prim.Native.Nat.{ℕ, zero, suc, ◌+◌, ◌*◌, ◌/◌, ◌%◌, ◌-◌, ◌^◌, ◌≤◌, ◌<◌}
use mathlib.Core.Path.{◌≡◌, refl, sym, ◌∙◌, ap}
use mathlib.Core.Logic.{by_cases}
use mathlib.Core.List.{List, [], ◌∷◌, ◌++◌}
use native.Mathlib.Decide.{ℕ_discrete}
use native.Mathlib.Omega.{arith}
use native.Mathlib.Nat.{mul_assoc, mul_comm, div-eq_of_lt}
use lib.ListN.{length, get_or, drop, length-append, get_or-append, get_or-eq_default}
use lib.Seq.{get_or-append-add, get_or-drop, drop-drop}
use lib.Pow.{pow-add, pow_pos, shl_exact, shr-shr}
use Rattle.frames.specs.Bits.{number_bits, field, bits_of, packed_in}

-- every member is a bit
abbrev pub Bits : List ℕ → Type 0
Bits [] = Unit {0}
Bits (b ∷ l) = (b < 2) × Bits l

pub pow-suc : (w : ℕ) → 2 ^ suc w ≡ 2 * 2 ^ w
pow-suc w = let e : suc w ≡ 1 + w = omega arith in ap (λ (n : ℕ). 2 ^ n) e ∙ pow-add 2 1 w

pub length-number_bits : (w x : ℕ) → length (number_bits w x) ≡ w
unfolding number_bits
length-number_bits zero x = refl
length-number_bits (suc w) x = ap suc (length-number_bits w x)

-- a bit of a number
bit-of : (w r x : ℕ) → r < w → get_or (number_bits w x) r 0 ≡ x / 2 ^ (w - (r + 1)) % 2
unfolding number_bits
bit-of zero r x h = absurd (omega arith)
bit-of (suc w) zero x h = let e : suc w - (0 + 1) ≡ w = omega arith in rw e
bit-of (suc w) (suc r) x h = let e : suc w - (suc r + 1) ≡ w - (r + 1) = omega arith in rw e (bit-of w r x (omega arith))

pub length-bits_of : (s : List ℕ) → length (bits_of s) ≡ 8 * length s
unfolding bits_of
length-bits_of [] = refl
length-bits_of (b ∷ s) = let e = length-bits_of s in let n = length-number_bits 8 b in rw (length-append (number_bits 8 b)) (omega arith)

-- a bit of bytes
pub bit_in : (s : List ℕ) (j r : ℕ) → r < 8 → get_or (bits_of s) (8 * j + r) 0 ≡ get_or s j 0 / 2 ^ (7 - r) % 2
unfolding bits_of
bit_in [] j r h =
    let p = pow_pos (7 - r) in
    let z : 0 / 2 ^ (7 - r) ≡ 0 = div-eq_of_lt p in
    sym (ap (λ (n : ℕ). n % 2) z)
bit_in (b ∷ s) zero r h =
    let l = length-number_bits 8 b in
    let e : 8 - (r + 1) ≡ 7 - r = omega arith in
    let f : 0 + r ≡ r = omega arith in
    rw f (get_or-append (number_bits 8 b) (bits_of s) 0 r (omega arith) ∙ bit-of 8 r b h ∙ rw e)
bit_in (b ∷ s) (suc j) r h =
    let l = length-number_bits 8 b in
    let e : 8 * suc j + r ≡ length (number_bits 8 b) + (8 * j + r) = omega arith in
    rw e (get_or-append-add (number_bits 8 b) (bits_of s) (8 * j + r) 0 ∙ bit_in s j r h)

-- a row's number with one bit more
pub field_next : (w : ℕ) (l : List ℕ) → field (suc w) l ≡ 2 * field w l + get_or l w 0
unfolding field
field_next w [] = refl
field_next zero (b ∷ []) = omega arith
field_next zero (b ∷ c ∷ l) = omega arith
field_next (suc w) (b ∷ l) =
    let e = field_next w l in
    let p = pow-suc w in
    let q : b * 2 ^ suc w ≡ 2 * (b * 2 ^ w) = rw p (sym (mul_assoc b 2 (2 ^ w)) ∙ ap (λ (n : ℕ). n * 2 ^ w) (mul_comm b 2) ∙ mul_assoc 2 b (2 ^ w)) in
    omega arith

pub bit_lt : (l : List ℕ) (k : ℕ) → Bits l → get_or l k 0 < 2
bit_lt [] k h = omega arith
bit_lt (b ∷ l) zero h = h.0
bit_lt (b ∷ l) (suc k) h = bit_lt l k h.1

-- a bit of a row's number
field-bit : (w : ℕ) (l : List ℕ) (r : ℕ) → Bits l → r < w → field w l / 2 ^ (w - (r + 1)) % 2 ≡ get_or l r 0
field-bit zero l r h k = absurd (omega arith)
field-bit (suc w) l r h k =
    let e = field_next w l in
    let b = bit_lt l w h in
    by_cases (ℕ_discrete r w) (λ q. (let z : suc w - (r + 1) ≡ 0 = omega arith in rw (z, q, e) (omega arith)))
    (λ q. (let z : suc w - (r + 1) ≡ 1 + (w - (r + 1)) = omega arith in
    let f : field (suc w) l / 2 ^ 1 ≡ field w l = rw e (omega arith) in
    rw z (ap (λ (n : ℕ). n % 2) (sym (shr-shr (field (suc w) l) 1 (w - (r + 1))) ∙ rw f) ∙ field-bit w l r h (omega arith))))

pub length-packed_in : (n : ℕ) (l : List ℕ) → length (packed_in n l) ≡ n
unfolding packed_in
length-packed_in zero l = refl
length-packed_in (suc n) l = ap suc (length-packed_in n (drop 8 l))

byte-packed : (n : ℕ) (l : List ℕ) (j : ℕ) → j < n → get_or (packed_in n l) j 0 ≡ field 8 (drop (8 * j) l)
unfolding packed_in
byte-packed zero l j h = absurd (omega arith)
byte-packed (suc n) l zero h = refl
byte-packed (suc n) l (suc j) h = let e : 8 + 8 * j ≡ 8 * suc j = omega arith in byte-packed n (drop 8 l) j (omega arith) ∙ ap (field 8) (drop-drop (8 * j) 8 l ∙ rw e)

pub bits-drop : (n : ℕ) (l : List ℕ) → Bits l → Bits (drop n l)
bits-drop zero l h = h
bits-drop (suc n) [] h = tt
bits-drop (suc n) (b ∷ l) h = bits-drop n l h.1

-- a bit of packed bits, whatever bytes stand after them
pub bit-packed : (n : ℕ) (l after : List ℕ) (k : ℕ) → Bits l → k < 8 * n → get_or (bits_of (packed_in n l ++ after)) k 0 ≡ get_or l k 0
bit-packed n l after k h g =
    let j : ℕ = k / 8 in
    let r : ℕ = k % 8 in
    let e : 8 * (k / 8) + k % 8 ≡ k = omega arith in
    let m = length-packed_in n l in
    let d : get_or (packed_in n l ++ after) (k / 8) 0 ≡ field 8 (drop (8 * (k / 8)) l) = get_or-append (packed_in n l) after 0 (k / 8) (omega arith) ∙ byte-packed n l (k / 8) (omega arith) in
    let b = field-bit 8 (drop (8 * (k / 8)) l) (k % 8) (bits-drop (8 * (k / 8)) l h) (omega arith) in
    let x : 8 - (k % 8 + 1) ≡ 7 - k % 8 = omega arith in
    ap (λ (i : ℕ). get_or (bits_of (packed_in n l ++ after)) i 0) (sym e) ∙ bit_in (packed_in n l ++ after) (k / 8) (k % 8) (omega arith)
    ∙ ap (λ (v : ℕ). v / 2 ^ (7 - k % 8) % 2) d ∙ (rw x at b) ∙ get_or-drop (8 * (k / 8)) l (k % 8) 0 ∙ ap (λ (i : ℕ). get_or l i 0) e

-- the weight of a bit in its byte
pub weighed : (n : ℕ) → n ≤ 7 → ((1 * 2 ^ n) % 2 ^ 8 ≡ 2 ^ n) × (0 < (1 * 2 ^ n) % 2 ^ 8)
weighed n h =
    let e : (1 * 2 ^ n) % 2 ^ 8 ≡ 1 * 2 ^ n = shl_exact {a = 1} 1 n 8 (omega arith) (omega arith) in
    let p = pow_pos n in
    (omega arith, omega arith)

-- bit k of bytes, by its byte and its weight there, and past the end
pub bit-read : (s : List ℕ) (k m : ℕ) → m ≡ 2 ^ (7 - k % 8) → get_or s (k / 8) 0 / m % 2 ≡ get_or (bits_of s) k 0
bit-read s k m e =
    let a : 8 * (k / 8) + k % 8 ≡ k = omega arith in
    rw e (sym (bit_in s (k / 8) (k % 8) (omega arith)) ∙ rw a)

pub bit-none : (s : List ℕ) (k : ℕ) → length s ≤ k / 8 → 0 ≡ get_or (bits_of s) k 0
bit-none s k h = sym (get_or-eq_default (bits_of s) 0 (omega (arith, length-bits_of s)))
