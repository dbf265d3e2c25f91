-- Bytes as rows of bits, and back: packed of their own bits, and the bits of packed ones.
use Prim.Native.Nat.{ℕ, zero, suc, ◌+◌, ◌*◌, ◌-◌, ◌≤◌, ◌<◌}
use mathlib.Core.Path.{◌≡◌, refl, sym, ◌∙◌, ap}
use mathlib.Core.List.{List, [], ◌∷◌, ◌++◌, append_assoc}
use native.Mathlib.Omega.{arith}
use native.Mathlib.Nat.{mod-eq_of_lt}
use lib.ListN.{length, get_or, drop, set, replicate, length-append, length-replicate, take-append-drop, length-drop}
use lib.Seq.{drop_at, drop-append-add, drop-nil, get_or-drop}
use Rattle.frames.specs.Bits.{number_bits, field, bits_of, packed_in}
use Rattle.frames.proofs.PackedBits.{Bits, length-number_bits, length-bits_of, bits-drop}
use Rattle.frames.proofs.NumberBits.{bits-number_bits, bits-append, field_back, bits_back, field_lt}

-- all numbers of a list are bytes
abbrev pub Bytes : List ℕ → Type 0
Bytes s = (k : ℕ) → get_or s k 0 < 256

pub bytes-append : (s t : List ℕ) → Bytes s → Bytes t → Bytes (s ++ t)
bytes-append [] t h k n = k n
bytes-append (b ∷ s) t h k zero = h 0
bytes-append (b ∷ s) t h k (suc n) = bytes-append s t (λ m. h (suc m)) k n

pub bytes_drop : (n : ℕ) (s : List ℕ) → Bytes s → Bytes (drop n s)
bytes_drop n s h k = rw get_or-drop (h (n + k))

pub bits-bits_of : (s : List ℕ) → Bits (bits_of s)
unfolding bits_of
bits-bits_of [] = tt
bits-bits_of (b ∷ s) = bits-append (number_bits 8 b) (bits_of s) (bits-number_bits 8 b) (bits-bits_of s)

pub bits_of-append : (s t : List ℕ) → bits_of (s ++ t) ≡ bits_of s ++ bits_of t
unfolding bits_of
bits_of-append [] t = refl
bits_of-append (b ∷ s) t = rw (bits_of-append s t, append_assoc (number_bits 8 b))

module _ {A : Type 0} where
  -- an index past the front
  pub drop_past : (p q : List A) (n k : ℕ) → k ≡ length p + n → drop k (p ++ q) ≡ drop n q
  drop_past p q n k e = rw e (drop-append-add p q n)

  pub set_past : (p q : List A) (n k : ℕ) (a : A) → k ≡ length p + n → set (p ++ q) k a ≡ p ++ set q n a
  set_past [] q n k a e = let f : k ≡ n = omega arith in rw f
  set_past (x ∷ p) q n zero a e = absurd (omega arith)
  set_past (x ∷ p) q n (suc k) a e = ap (λ (l : List A). x ∷ l) (set_past p q n k a (omega arith))

pub bits_of-drop : (n : ℕ) (s : List ℕ) → bits_of (drop n s) ≡ drop (8 * n) (bits_of s)
unfolding bits_of
bits_of-drop zero s = refl
bits_of-drop (suc n) [] = sym (drop-nil (8 * suc n))
bits_of-drop (suc n) (b ∷ s) =
    let l = length-number_bits 8 b in
    bits_of-drop n s ∙ sym (drop_past (number_bits 8 b) (bits_of s) (8 * n) (8 * suc n) (omega arith))

-- bytes that are packed of their own bits
pub packed-back : (s : List ℕ) → Bytes s → packed_in (length s) (bits_of s) ≡ s
unfolding bits_of packed_in
packed-back [] h = refl
packed-back (b ∷ s) h =
    let f : field 8 (number_bits 8 b ++ bits_of s) ≡ b = field_back 8 b (bits_of s) ∙ mod-eq_of_lt (h 0) in
    let d : drop 8 (number_bits 8 b ++ bits_of s) ≡ bits_of s = drop_at (number_bits 8 b) (bits_of s) 8 (length-number_bits 8 b) in
    rw (f, d, packed-back s (λ k. h (suc k)))

-- bytes with the same bits are the same
pub same_bits : (s t : List ℕ) → Bytes s → Bytes t → bits_of s ≡ bits_of t → s ≡ t
same_bits s t h k e =
    let l : length s ≡ length t = omega (arith, length-bits_of s, length-bits_of t, ap length e) in
    sym (packed-back s h) ∙ ap (packed_in (length s)) e ∙ ap (λ (n : ℕ). packed_in n (bits_of t)) l ∙ packed-back t k

-- zero bits at the end change nothing
drop_pad : (m : ℕ) (l : List ℕ) (k : ℕ) → drop m (l ++ replicate k 0) ≡ drop m l ++ replicate (k - (m - length l)) 0
drop_pad zero l k = let e : k - (0 - length l) ≡ k = omega arith in rw e
drop_pad (suc m) [] zero = let e : 0 - (suc m - 0) ≡ 0 = omega arith in rw e
drop_pad (suc m) [] (suc k) =
    let e : suc k - (suc m - 0) ≡ k - (m - 0) = omega arith in
    rw e (drop_pad m [] k ∙ ap (λ (l : List ℕ). l ++ replicate (k - (m - 0)) 0) (drop-nil m))
drop_pad (suc m) (b ∷ l) k = let e : k - (suc m - suc (length l)) ≡ k - (m - length l) = omega arith in rw e (drop_pad m l k)

pub field-zeros : (w k : ℕ) → field w (replicate k 0) ≡ 0
unfolding field
field-zeros zero zero = refl
field-zeros (suc w) zero = refl
field-zeros zero (suc k) = refl
field-zeros (suc w) (suc k) = let e = field-zeros w k in omega arith

field_pad : (w : ℕ) (l : List ℕ) (k : ℕ) → field w (l ++ replicate k 0) ≡ field w l
unfolding field
field_pad w [] k = field-zeros w k
field_pad zero (b ∷ l) k = refl
field_pad (suc w) (b ∷ l) k = rw (field_pad w l k)

packed_pad : (n : ℕ) (l : List ℕ) (k : ℕ) → packed_in n (l ++ replicate k 0) ≡ packed_in n l
unfolding packed_in
packed_pad zero l k = refl
packed_pad (suc n) l k = rw (field_pad 8 l k, drop_pad 8 l k, packed_pad n (drop 8 l) (k - (8 - length l)))

pub bits-zeros : (n : ℕ) → Bits (replicate n 0)
bits-zeros zero = tt
bits-zeros (suc n) = (omega arith, bits-zeros n)

unpacked-whole : (n : ℕ) (l : List ℕ) → Bits l → length l ≡ 8 * n → bits_of (packed_in n l) ≡ l
unfolding bits_of packed_in
unpacked-whole zero [] h e = refl
unpacked-whole zero (b ∷ l) h e = absurd (omega arith)
unpacked-whole (suc n) l h e =
    let d = length-drop 8 l in
    let i = unpacked-whole n (drop 8 l) (bits-drop 8 l h) (omega arith) in
    rw (bits_back 8 l h (omega arith), i, take-append-drop 8 l)

-- the bits of packed bits: zero bits fill
pub unpacked : (n : ℕ) (l : List ℕ) → Bits l → length l ≤ 8 * n → bits_of (packed_in n l) ≡ l ++ replicate (8 * n - length l) 0
unpacked n l h k =
    let z : ℕ = 8 * n - length l in
    let r = length-replicate {A = ℕ} z 0 in
    let a = length-append l (replicate z 0) in
    ap bits_of (sym (packed_pad n l z)) ∙ unpacked-whole n (l ++ replicate z 0) (bits-append l (replicate z 0) h (bits-zeros z)) (omega arith)

pub bytes-packed_in : (n : ℕ) (l : List ℕ) → Bits l → Bytes (packed_in n l)
unfolding packed_in
bytes-packed_in zero l h k = omega arith
bytes-packed_in (suc n) l h zero = field_lt 8 l h
bytes-packed_in (suc n) l h (suc k) = bytes-packed_in n (drop 8 l) (bits-drop 8 l h) k
