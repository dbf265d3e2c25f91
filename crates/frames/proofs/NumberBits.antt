-- The bits of a number and the number of bits: cut, joined, and back.
use Prim.Native.Nat.{ℕ, zero, suc, ◌+◌, ◌*◌, ◌/◌, ◌%◌, ◌^◌, ◌≤◌, ◌<◌}
use mathlib.Core.Path.{◌≡◌, refl, sym, ◌∙◌, ap}
use mathlib.Core.List.{List, [], ◌∷◌, ◌++◌}
use native.Mathlib.Omega.{arith}
use native.Mathlib.Nat.{mul-add-div_right, mul_assoc, mod-eq_of_lt, add-mul-mod_self_right, add_comm, add-mul}
use lib.ListN.{length, take, drop, set}
use lib.Pow.{pow-add, pow_pos, mod-pow-add, high, shr-shr}
use lib.Seq.{set_at, drop-nil}
use Rattle.frames.specs.Bits.{number_bits, field}
use Rattle.frames.proofs.PackedBits.{Bits, pow-suc, length-number_bits}

pub bits-number_bits : (w x : ℕ) → Bits (number_bits w x)
unfolding number_bits
bits-number_bits zero x = tt
bits-number_bits (suc w) x = (omega arith, bits-number_bits w x)

pub bits-append : (l m : List ℕ) → Bits l → Bits m → Bits (l ++ m)
bits-append [] m h k = k
bits-append (b ∷ l) m h k = (h.0, bits-append l m h.1 k)

-- the number in a row that starts with a number's bits
pub field_back : (w x : ℕ) (rest : List ℕ) → field w (number_bits w x ++ rest) ≡ x % 2 ^ w
unfolding number_bits field
field_back zero x [] = omega arith
field_back zero x (b ∷ rest) = omega arith
field_back (suc w) x rest =
    let e = field_back w x rest in
    let m : x % 2 ^ suc w ≡ (x / 2 ^ w % 2) * 2 ^ w + x % 2 ^ w =
    (let e : suc w ≡ 1 + w = omega arith in ap (λ (n : ℕ). x % 2 ^ n) e ∙ mod-pow-add x 1 w) in
    omega arith

pub field_lt : (w : ℕ) (l : List ℕ) → Bits l → field w l < 2 ^ w
unfolding field
field_lt w [] h = pow_pos w
field_lt zero (b ∷ l) h = omega arith
field_lt (suc w) (b ∷ l) h =
    let f = field_lt w l h.1 in
    let p = pow-suc w in
    go b h.0 f p
  where
    go : (b : ℕ) → b < 2 → field w l < 2 ^ w → 2 ^ suc w ≡ 2 * 2 ^ w → b * 2 ^ w + field w l < 2 ^ suc w
    go zero k f p = omega arith
    go (suc zero) k f p = omega arith
    go (suc (suc b)) k f p = absurd (omega arith)

-- what stands above the lowest w + k bits does not show in the lowest w
pub number_bits-low : (w k a f : ℕ) → number_bits w (a * 2 ^ (w + k) + f) ≡ number_bits w f
unfolding number_bits
number_bits-low zero k a f = refl
number_bits-low (suc w) k a f =
    let e : suc w + k ≡ w + suc k = omega arith in
    let c : ℕ = a * 2 ^ k in
    let p : 2 ^ (suc w + k) ≡ (2 ^ k * 2) * 2 ^ w = (let i : suc w + k ≡ k + 1 + w = omega arith in
    ap (λ (n : ℕ). 2 ^ n) i ∙ pow-add 2 (k + 1) w ∙ ap (λ (n : ℕ). n * 2 ^ w) (pow-add 2 k 1)) in
    let q : (a * 2 ^ (suc w + k) + f) / 2 ^ w ≡ a * (2 ^ k * 2) + f / 2 ^ w =
    ap (λ (n : ℕ). (a * n + f) / 2 ^ w) p ∙ ap (λ (n : ℕ). (n + f) / 2 ^ w) (sym (mul_assoc a (2 ^ k * 2) (2 ^ w)))
    ∙ mul-add-div_right (pow_pos w) (a * (2 ^ k * 2)) f in
    let s = mul_assoc a (2 ^ k) 2 in
    let r : (a * (2 ^ k * 2) + f / 2 ^ w) % 2 ≡ f / 2 ^ w % 2 = omega arith in
    let t : number_bits w (a * 2 ^ (suc w + k) + f) ≡ number_bits w f =
    ap (λ (n : ℕ). number_bits w (a * 2 ^ n + f)) e ∙ number_bits-low w (suc k) a f in
    rw (q, r, t)

-- the bits of the number in the first bits of a row are these bits
pub bits_back : (w : ℕ) (l : List ℕ) → Bits l → w ≤ length l → number_bits w (field w l) ≡ take w l
unfolding number_bits field
bits_back zero l h k = refl
bits_back (suc w) [] h k = absurd (omega arith)
bits_back (suc w) (b ∷ l) h k =
    let f = field_lt w l h.1 in
    let a : (b * 2 ^ w + field w l) / 2 ^ w ≡ b = high b w f in
    let m : b % 2 ≡ b = mod-eq_of_lt h.0 in
    let z : w + 0 ≡ w = omega arith in
    let t : number_bits w (b * 2 ^ w + field w l) ≡ number_bits w (field w l) =
    ap (λ (n : ℕ). number_bits w (b * 2 ^ n + field w l)) (sym z) ∙ number_bits-low w 0 b (field w l) in
    let i = bits_back w l h.1 (omega arith) in
    rw (a, m, t, i)

-- the first bits of a number, then the last
pub number_bits_split : (a b x : ℕ) → number_bits (a + b) x ≡ number_bits a (x / 2 ^ b) ++ number_bits b x
unfolding number_bits
number_bits_split zero b x = let e : 0 + b ≡ b = omega arith in rw e
number_bits_split (suc a) b x =
    let e : suc a + b ≡ suc (a + b) = omega arith in
    let i = number_bits_split a b x in
    let s : x / 2 ^ b / 2 ^ a ≡ x / 2 ^ (a + b) = shr-shr x b a ∙ (let c : b + a ≡ a + b = omega arith in rw c) in
    rw (e, s, i)

-- a bit with the bits below it
low_bits : (k b lo : ℕ) → b < 2 → lo < 2 ^ k → number_bits (suc k) (b * 2 ^ k + lo) ≡ b ∷ number_bits k lo
unfolding number_bits
low_bits k b lo hb hl =
    let a : (b * 2 ^ k + lo) / 2 ^ k ≡ b = high b k hl in
    let m : b % 2 ≡ b = mod-eq_of_lt hb in
    let z : k + 0 ≡ k = omega arith in
    let t : number_bits k (b * 2 ^ k + lo) ≡ number_bits k lo = ap (λ (n : ℕ). number_bits k (b * 2 ^ n + lo)) (sym z) ∙ number_bits-low k 0 b lo in
    rw (a, m, t)

pub low_lt : (k b lo : ℕ) → b < 2 → lo < 2 ^ k → b * 2 ^ k + lo < 2 ^ suc k
low_lt k zero lo hb hl = let p = pow-suc k in omega arith
low_lt k (suc zero) lo hb hl = let p = pow-suc k in omega arith
low_lt k (suc (suc b)) lo hb hl = absurd (omega arith)

-- a bit with the bits above and below it
pub bit_split : (r k hi b lo : ℕ) → b < 2 → lo < 2 ^ k
    → number_bits (r + suc k) (hi * 2 ^ suc k + (b * 2 ^ k + lo)) ≡ number_bits r hi ++ (b ∷ number_bits k lo)
bit_split r k hi b lo hb hl =
    let x : ℕ = hi * 2 ^ suc k + (b * 2 ^ k + lo) in
    let h : x / 2 ^ suc k ≡ hi = high hi (suc k) (low_lt k b lo hb hl) in
    let z : suc k + 0 ≡ suc k = omega arith in
    let t : number_bits (suc k) x ≡ number_bits (suc k) (b * 2 ^ k + lo) =
    ap (λ (n : ℕ). number_bits (suc k) (hi * 2 ^ n + (b * 2 ^ k + lo))) (sym z) ∙ number_bits-low (suc k) 0 hi (b * 2 ^ k + lo) in
    number_bits_split r (suc k) x ∙ ap (λ (n : ℕ). number_bits r n ++ number_bits (suc k) x) h ∙ ap (λ (l : List ℕ). number_bits r hi ++ l) (t ∙ low_bits k b lo hb hl)

-- a bit replaced: r bits stand before it and k after
pub bit-set : (r k hi b c lo : ℕ) → b < 2 → c < 2 → lo < 2 ^ k
    → number_bits (r + suc k) (hi * 2 ^ suc k + (b * 2 ^ k + lo)) ≡ set (number_bits (r + suc k) (hi * 2 ^ suc k + (c * 2 ^ k + lo))) r b
bit-set r k hi b c lo hb hc hl =
    bit_split r k hi b lo hb hl
    ∙ sym (ap (λ (l : List ℕ). set l r b) (bit_split r k hi c lo hc hl) ∙ set_at (number_bits r hi) c (number_bits k lo) b r (length-number_bits r hi))

-- the number in the first bits of a row, then in those after them
pub field_split : (a b : ℕ) (l : List ℕ) → field (a + b) l ≡ field a l * 2 ^ b + field b (drop a l)
unfolding field
field_split a b [] = rw (drop-nil {A = ℕ} a) (omega arith)
field_split zero b (c ∷ l) = let e : 0 + b ≡ b = omega arith in rw e (omega arith)
field_split (suc a) b (c ∷ l) =
    let i = field_split a b l in
    let e : suc a + b ≡ suc (a + b) = omega arith in
    let p = pow-add 2 a b in
    let q : c * 2 ^ (a + b) ≡ c * 2 ^ a * 2 ^ b = ap (λ (n : ℕ). c * n) p ∙ sym (mul_assoc c (2 ^ a) (2 ^ b)) in
    let r : (c * 2 ^ a + field a l) * 2 ^ b ≡ c * 2 ^ a * 2 ^ b + field a l * 2 ^ b = add-mul (c * 2 ^ a) (field a l) (2 ^ b) in
    rw e (omega arith)

-- the first bits, and those after them, of the number of both
pub field_high : (a b : ℕ) (l : List ℕ) → Bits (drop a l) → field (a + b) l / 2 ^ b ≡ field a l
field_high a b l h = ap (λ (n : ℕ). n / 2 ^ b) (field_split a b l) ∙ high (field a l) b (field_lt b (drop a l) h)

pub field-low : (a b : ℕ) (l : List ℕ) → Bits (drop a l) → field (a + b) l % 2 ^ b ≡ field b (drop a l)
field-low a b l h = ap (λ (n : ℕ). n % 2 ^ b) (field_split a b l ∙ add_comm (field a l * 2 ^ b) (field b (drop a l))) ∙ add-mul-mod_self_right (field b (drop a l)) (field a l) (2 ^ b) ∙ mod-eq_of_lt (field_lt b (drop a l) h)
