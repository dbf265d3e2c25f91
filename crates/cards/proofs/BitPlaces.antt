-- Numbers of several bits at a place: read by bytes, put bit by bit; what was put comes back, and what stands elsewhere stays.
use Prim.Native.Nat.{ℕ, zero, suc, ◌+◌, ◌*◌, ◌/◌, ◌%◌, ◌-◌, ◌^◌, ◌≤◌, ◌<◌}
use mathlib.Core.Path.{◌≡◌, refl, sym, ◌∙◌, ap, subst}
use mathlib.Core.Logic.{inl, inr}
use mathlib.Core.List.{List, [], ◌∷◌, ◌++◌}
use native.Mathlib.Omega.{arith}
use native.Mathlib.Nat.{add-zero, mod-eq_of_lt}
use lib.ListN.{length, get_or, take, drop, set}
use lib.Seq.{sets, get_or-drop, drop-drop, drop_at, length-take-le, set_out}
use lib.Pow.{pow_pos, shl-shr, low, mod-pow-add}
use Rattle.frames.specs.Bytes.{byte, number_at}
use Rattle.frames.specs.Bits.{number_bits, field, bits_of}
use Rattle.frames.proofs.PackedBits.{Bits, length-number_bits, length-bits_of, field_next, bits-drop}
use Rattle.frames.proofs.DisableBits.{field-none}
use Rattle.frames.proofs.NumberBits.{field_back, field_lt, field_split, field_high, field-low}
use Rattle.frames.proofs.PackedRows.{Bytes, bits-bits_of, bits_of-drop}
use Rattle.frames.proofs.ValuesPut.{sets-parts, sets-stay}

-- the bits of bytes from a place on
abbrev from : List ℕ → ℕ → List ℕ
from s at = drop at (bits_of s)

from_bits : (s : List ℕ) (at : ℕ) → Bits (from s at)
from_bits s at = bits-drop at (bits_of s) (bits-bits_of s)

-- the first byte
first_byte : (s : List ℕ) → get_or s 0 0 < 256 → field 8 (bits_of s) ≡ get_or s 0 0
unfolding bits_of field
first_byte [] h = refl
first_byte (b ∷ s) h = field_back 8 b (bits_of s) ∙ mod-eq_of_lt h

byte_at : (s : List ℕ) (j : ℕ) → byte s j < 256 → field 8 (from s (8 * j)) ≡ byte s j
byte_at s j h =
    let i : j + 0 ≡ j = omega arith in
    let e : get_or (drop j s) 0 0 ≡ get_or s j 0 = get_or-drop j s 0 0 ∙ ap (λ (k : ℕ). get_or s k 0) i in
    ap (field 8) (sym (bits_of-drop j s)) ∙ first_byte (drop j s) (rw e h) ∙ e

-- eight bits that start within a byte, by that byte and the next
byte-within : (s : List ℕ) (j r a b : ℕ) → r < 8 → a ≡ byte s j → a < 256 → b ≡ byte s (j + 1) → b < 256
    → (a * 256 + b) / 2 ^ (8 - r) % 256 ≡ field 8 (from s (8 * j + r))
byte-within s j r a b h e k f m =
    let l : List ℕ = from s (8 * j) in
    let i : 8 * j + 8 ≡ 8 * (j + 1) = omega arith in
    let d : drop 8 (from s (8 * j)) ≡ from s (8 * (j + 1)) = drop-drop 8 (8 * j) (bits_of s) ∙ ap (from s) i in
    let x : field 8 (from s (8 * j)) ≡ a = byte_at s j (rw (← e) k) ∙ sym e in
    let y : field 8 (drop 8 (from s (8 * j))) ≡ b = ap (field 8) d ∙ byte_at s (j + 1) (rw (← f) m) ∙ sym f in
    let z : field 16 (from s (8 * j)) ≡ a * 256 + b = field_split 8 8 (from s (8 * j)) ∙ ap (λ (n : ℕ). n * 256 + field 8 (drop 8 (from s (8 * j)))) x ∙ ap (λ (n : ℕ). a * 256 + n) y in
    let w : r + 8 + (8 - r) ≡ 16 = omega arith in
    let p : field 16 (from s (8 * j)) / 2 ^ (8 - r) ≡ field (r + 8) (from s (8 * j)) =
    ap (λ (n : ℕ). field n (from s (8 * j)) / 2 ^ (8 - r)) (sym w) ∙ field_high (r + 8) (8 - r) (from s (8 * j)) (bits-drop (r + 8) (from s (8 * j)) (from_bits s (8 * j))) in
    ap (λ (n : ℕ). n / 2 ^ (8 - r) % 256) (sym z) ∙ ap (λ (n : ℕ). n % 256) p
    ∙ field-low r 8 (from s (8 * j)) (bits-drop r (from s (8 * j)) (from_bits s (8 * j))) ∙ ap (field 8) (drop-drop r (8 * j) (bits_of s))

pub byte-from : (s : List ℕ) (at a b : ℕ) → a ≡ byte s (at / 8) → a < 256 → b ≡ byte s (at / 8 + 1) → b < 256
    → (a * 256 + b) / 2 ^ (8 - at % 8) % 256 ≡ field 8 (from s at)
byte-from s at a b e k f m =
    let p : 8 * (at / 8) + at % 8 ≡ at = omega arith in
    byte-within s (at / 8) (at % 8) a b (omega arith) e k f m ∙ ap (λ (i : ℕ). field 8 (from s i)) p

-- a number of several bytes, by their bits
number-from : (s : List ℕ) (j w : ℕ) → Bytes s → number_at s j w ≡ field (8 * w) (from s (8 * j))
unfolding number_at
number-from s j zero h = field-none (from s (8 * j))
number-from s j (suc w) h =
    let e = number-from s j w h in
    let q : 8 * w + 8 ≡ 8 * suc w = omega arith in
    let p : 8 * j + 8 * w ≡ 8 * (j + w) = omega arith in
    let b : field 8 (drop (8 * w) (from s (8 * j))) ≡ byte s (j + w) = ap (field 8) (drop-drop (8 * w) (8 * j) (bits_of s) ∙ ap (from s) p) ∙ byte_at s (j + w) (h (j + w)) in
    ap (λ (n : ℕ). n * 256 + byte s (j + w)) e ∙ ap (λ (n : ℕ). field (8 * w) (from s (8 * j)) * 256 + n) (sym b)
    ∙ sym (field_split (8 * w) 8 (from s (8 * j))) ∙ ap (λ (n : ℕ). field n (from s (8 * j))) q

-- what is shifted out on the left is lost
shl_low : (v k j : ℕ) → (v * 2 ^ k) % 2 ^ (j + k) ≡ (v % 2 ^ j) * 2 ^ k
shl_low v k j =
    let z : (v * 2 ^ k) % 2 ^ k ≡ 0 = ap (λ (n : ℕ). n % 2 ^ k) (sym (add-zero (v * 2 ^ k))) ∙ low v k (pow_pos k) in
    mod-pow-add (v * 2 ^ k) j k ∙ ap (λ (n : ℕ). (n % 2 ^ j) * 2 ^ k + (v * 2 ^ k) % 2 ^ k) (shl-shr v k)
    ∙ ap (λ (n : ℕ). (v % 2 ^ j) * 2 ^ k + n) z ∙ add-zero ((v % 2 ^ j) * 2 ^ k)

-- 64 bits that start r bits after a row does, by its first 64 bits and the next eight
word-bits : (l : List ℕ) (r v b : ℕ) → Bits l → r < 8 → v ≡ field 64 l → b ≡ field 8 (drop 64 l)
    → (v * 2 ^ r) % 2 ^ 64 + b / 2 ^ (8 - r) ≡ field 64 (drop r l)
word-bits l r v b h k e f =
    let m : 64 - r + r ≡ 64 = omega arith in
    let n : r + (64 - r) ≡ 64 = omega arith in
    let o : r + (8 - r) ≡ 8 = omega arith in
    let x : (v * 2 ^ r) % 2 ^ 64 ≡ (v % 2 ^ (64 - r)) * 2 ^ r = ap (λ (i : ℕ). (v * 2 ^ r) % 2 ^ i) (sym m) ∙ shl_low v r (64 - r) in
    let y : v % 2 ^ (64 - r) ≡ field (64 - r) (drop r l) =
    ap (λ (i : ℕ). i % 2 ^ (64 - r)) (e ∙ ap (λ (i : ℕ). field i l) (sym n)) ∙ field-low r (64 - r) l (bits-drop r l h) in
    let d : drop 64 l ≡ drop (64 - r) (drop r l) = ap (λ (i : ℕ). drop i l) (sym n) ∙ sym (drop-drop (64 - r) r l) in
    let z : b / 2 ^ (8 - r) ≡ field r (drop (64 - r) (drop r l)) =
    ap (λ (i : ℕ). i / 2 ^ (8 - r)) (f ∙ ap (λ (i : ℕ). field i (drop 64 l)) (sym o))
    ∙ field_high r (8 - r) (drop 64 l) (bits-drop r (drop 64 l) (bits-drop 64 l h)) ∙ ap (field r) d in
    ap (λ (i : ℕ). i + b / 2 ^ (8 - r)) (x ∙ ap (λ (i : ℕ). i * 2 ^ r) y) ∙ ap (λ (i : ℕ). field (64 - r) (drop r l) * 2 ^ r + i) z
    ∙ sym (field_split (64 - r) r (drop r l)) ∙ ap (λ (i : ℕ). field i (drop r l)) m

pub record WordBits (s : List ℕ) (at v b : ℕ) : Type 0 where
  pub number : (v * 2 ^ (at % 8)) % 2 ^ 64 + b / 2 ^ (8 - at % 8) ≡ field 64 (from s at)
  pub less : field 64 (from s at) < 2 ^ 64

pub word-from : (s : List ℕ) (at v b : ℕ) → Bytes s → v ≡ number_at s (at / 8) 8 → b ≡ byte s (at / 8 + 8) → WordBits s at v b
word-from s at v b h e f =
    let p : 8 * (at / 8) + at % 8 ≡ at = omega arith in
    let q : 8 * (at / 8) + 64 ≡ 8 * (at / 8 + 8) = omega arith in
    let d : drop (at % 8) (from s (8 * (at / 8))) ≡ from s at = drop-drop (at % 8) (8 * (at / 8)) (bits_of s) ∙ ap (from s) p in
    let g : field 8 (drop 64 (from s (8 * (at / 8)))) ≡ byte s (at / 8 + 8) = ap (field 8) (drop-drop 64 (8 * (at / 8)) (bits_of s) ∙ ap (from s) q) ∙ byte_at s (at / 8 + 8) (h (at / 8 + 8)) in
    record {
      number = word-bits (from s (8 * (at / 8))) (at % 8) v b (from_bits s (8 * (at / 8))) (omega arith) (e ∙ number-from s (at / 8) 8 h) (f ∙ sym g) ∙ ap (field 64) d;
      less = field_lt 64 (from s at) (from_bits s at);
    }

-- the first of 64 bits
pub first-bits : (s : List ℕ) (at w x : ℕ) → w ≤ 64 → x ≡ field 64 (from s at) → (x / 2 ^ (64 - w) ≡ field w (from s at)) × (x / 2 ^ (64 - w) < 2 ^ w)
first-bits s at w x h e =
    let n : w + (64 - w) ≡ 64 = omega arith in
    let q : x / 2 ^ (64 - w) ≡ field w (from s at) =
    ap (λ (i : ℕ). i / 2 ^ (64 - w)) (e ∙ ap (λ (i : ℕ). field i (from s at)) (sym n)) ∙ field_high w (64 - w) (from s at) (bits-drop w (from s at) (from_bits s at)) in
    (q, subst (λ (i : ℕ). i < 2 ^ w) (sym q) (field_lt w (from s at) (from_bits s at)))

pub bit_past : (s : List ℕ) (j r b : ℕ) → length s ≤ j → bits_of s ≡ set (bits_of s) (8 * j + r) b
bit_past s j r b h = sym (set_out (bits_of s) (8 * j + r) b (omega (arith, length-bits_of s)))

-- a turn of putting a number's bits, its start and its end
pub put-turn : (v : List ℕ) (s t : List ℕ) (at k width x b place : ℕ) → k < width → sets (bits_of s) (at + k) (number_bits (width - k) x) ≡ v
    → b ≡ x / 2 ^ (width - (k + 1)) % 2 → place ≡ at + k → bits_of t ≡ set (bits_of s) place b
    → sets (bits_of t) (at + (k + 1)) (number_bits (width - (k + 1)) x) ≡ v
unfolding number_bits
put-turn v s t at k width x b place h inv e p q =
    let w : width - k ≡ suc (width - (k + 1)) = omega arith in
    let i : at + (k + 1) ≡ suc (at + k) = omega arith in
    rw (q, e, p, i) (rw w at inv)

pub put-end : (v : List ℕ) (s : List ℕ) (at k width x : ℕ) → width ≤ k → sets (bits_of s) (at + k) (number_bits (width - k) x) ≡ v → bits_of s ≡ v
unfolding number_bits
put-end v s at k width x h inv = let w : width - k ≡ 0 = omega arith in rw w at inv

pub put-start : (s : List ℕ) (at width x : ℕ) → sets (bits_of s) (at + 0) (number_bits (width - 0) x) ≡ sets (bits_of s) at (number_bits width x)
put-start s at width x = let a : at + 0 ≡ at = omega arith in let b : width - 0 ≡ width = omega arith in rw (a, b)

-- what was put comes back
pub put_back : (l : List ℕ) (at w x : ℕ) → at + w ≤ length l → field w (drop at (sets l at (number_bits w x))) ≡ x % 2 ^ w
put_back l at w x h =
    let n = length-number_bits w x in
    let e = sets-parts l at (number_bits w x) (omega arith) in
    let d : drop at (sets l at (number_bits w x)) ≡ number_bits w x ++ drop (at + length (number_bits w x)) l = ap (drop at) e ∙ drop_at (take at l) _ at (length-take-le at l (omega arith)) in
    ap (field w) d ∙ field_back w x (drop (at + length (number_bits w x)) l)

-- a number goes by its bits
field-same : (w : ℕ) (l m : List ℕ) → ((k : ℕ) → k < w → get_or l k 0 ≡ get_or m k 0) → field w l ≡ field w m
field-same zero l m h = sym (field-none l) ∙ field-none m
field-same (suc w) l m h =
    let a = field-same w l m (λ k j. h k (omega arith)) in
    let b = h w (omega arith) in
    field_next w l ∙ (let e : 2 * field w l + get_or l w 0 ≡ 2 * field w m + get_or m w 0 = omega arith in e) ∙ sym (field_next w m)

-- numbers elsewhere stay
pub number-before : (l : List ℕ) (i : ℕ) (vs : List ℕ) (at w : ℕ) → at + w ≤ i → field w (drop at (sets l i vs)) ≡ field w (drop at l)
number-before l i vs at w h = field-same w _ _ (λ k j. get_or-drop at (sets l i vs) k 0 ∙ sets-stay vs l i (at + k) 0 (inl (omega arith)) ∙ sym (get_or-drop at l k 0))

pub number-after : (l : List ℕ) (i : ℕ) (vs : List ℕ) (at w : ℕ) → i + length vs ≤ at → field w (drop at (sets l i vs)) ≡ field w (drop at l)
number-after l i vs at w h = field-same w _ _ (λ k j. get_or-drop at (sets l i vs) k 0 ∙ sets-stay vs l i (at + k) 0 (inr (omega arith)) ∙ sym (get_or-drop at l k 0))
