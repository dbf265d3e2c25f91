-- A bit replaced by its number among bytes, and the disable bits of words put among bits: one by one, and whole bytes at once.
use Prim.Native.Nat.{ℕ, suc, ◌+◌, ◌*◌, ◌/◌, ◌%◌, ◌-◌, ◌≤◌, ◌<◌}
use mathlib.Core.Path.{◌≡◌, sym, ◌∙◌, ap, ap₂}
use mathlib.Core.List.{List, [], ◌∷◌, ◌++◌, append-nil, map-append}
use native.Mathlib.Omega.{arith}
use lib.ListN.{length, get_or, take, drop, set, replicate, drop_of_length-le, take-append-drop, length-drop, length-map}
use lib.Seq.{sets, take_at, take_all, drop-drop, length-take-le}
use Rattle.frames.specs.Bits.{bits_of, bytes_for, packed, zero_bit, zero_bits, marked}
use Rattle.frames.proofs.PackedBits.{length-bits_of}
use Rattle.frames.proofs.DisableBits.{bits-zero_bits, marked-room}
use Rattle.frames.proofs.PackedRows.{bits_of-append, bits_of-drop, unpacked}
use Rattle.frames.proofs.SetBits.{bits-set}
use Rattle.frames.proofs.ValuesPut.{sets-parts, sets-append}
use Rattle.files.proofs.OneMore.{drop-next}
use Rattle.tables.specs.events.TablesRewritten.{with_bit}

-- bit k of bytes replaced, by its byte
pub bit-replaced : (s : List ℕ) (k b x : ℕ) → x ≡ with_bit (get_or s (k / 8) 0) (7 - k % 8) (b % 2) → k < 8 * length s → b < 2
    → bits_of (set s (k / 8) x) ≡ set (bits_of s) k b
bit-replaced s k b x q h i =
    let e : 8 * (k / 8) + k % 8 ≡ k = omega arith in
    let m : b % 2 ≡ b = omega arith in
    ap (λ (v : ℕ). bits_of (set s (k / 8) v)) (q ∙ ap (with_bit (get_or s (k / 8) 0) (7 - k % 8)) m) ∙ bits-set s (k / 8) (k % 8) b (omega arith) (omega arith) i ∙ ap (λ (j : ℕ). set (bits_of s) j b) e

-- disable bits one by one: the start, a turn and the end
zero_bits-next : (words : List ℕ) (k : ℕ) → k < length words → zero_bits (drop k words) ≡ zero_bit (get_or words k 0) ∷ zero_bits (drop (k + 1) words)
zero_bits-next words k h = ap zero_bits (drop-next 0 words k h)

pub mark-first : (s words : List ℕ) (at : ℕ) → sets (bits_of s) (at + 0) (zero_bits (drop 0 words)) ≡ sets (bits_of s) at (zero_bits words)
mark-first s words at = let e : at + 0 ≡ at = omega arith in rw e

pub mark-turn : (s t words : List ℕ) (at k b : ℕ) {v : List ℕ} → sets (bits_of s) (at + k) (zero_bits (drop k words)) ≡ v
    → b ≡ zero_bit (get_or words k 0) → bits_of t ≡ set (bits_of s) (at + k) b → k < length words → sets (bits_of t) (at + (k + 1)) (zero_bits (drop (k + 1) words)) ≡ v
mark-turn s t words at k b inv e q h =
    let i : at + (k + 1) ≡ suc (at + k) = omega arith in
    let z : sets (bits_of s) (at + k) (zero_bits (drop k words)) ≡ sets (set (bits_of s) (at + k) b) (suc (at + k)) (zero_bits (drop (k + 1) words)) =
    ap (sets (bits_of s) (at + k)) (zero_bits-next words k h) ∙ ap (λ (x : ℕ). sets (set (bits_of s) (at + k) x) (suc (at + k)) (zero_bits (drop (k + 1) words))) (sym e) in
    rw (q, i) (sym z ∙ inv)

pub mark-last : (s words : List ℕ) (at k : ℕ) {v : List ℕ} → sets (bits_of s) (at + k) (zero_bits (drop k words)) ≡ v → length words ≤ k → bits_of s ≡ v
mark-last s words at k inv h = sym (ap (λ (l : List ℕ). sets (bits_of s) (at + k) (zero_bits l)) (drop_of_length-le words h)) ∙ inv

-- whole bytes of disable bits put among bytes
module _ (s words : List ℕ) (j : ℕ) (whole : length words % 8 ≡ 0) (room : 8 * j + length words ≤ 8 * length s) where
  abbrev new : List ℕ
  new = zero_bits words

  same : length new ≡ length words
  same = length-map words zero_bit

  front : bits_of (take j s) ≡ take (8 * j) (bits_of s)
  front =
      sym (take_at (bits_of (take j s)) (bits_of (drop j s)) (8 * j) (length-bits_of (take j s) ∙ ap (λ (n : ℕ). 8 * n) (length-take-le j s (omega arith))))
      ∙ ap (take (8 * j)) (sym (bits_of-append (take j s) (drop j s)) ∙ ap bits_of (take-append-drop j s))

  middle : bits_of (packed new) ≡ new
  middle =
      let n : 8 * bytes_for (length new) - length new ≡ 0 = omega (arith, same) in
      unpacked (bytes_for (length new)) new (bits-zero_bits words) (omega (arith, same)) ∙ ap (λ (k : ℕ). new ++ replicate k 0) n ∙ append-nil new

  back : bits_of (drop (bytes_for (length words)) (drop j s)) ≡ drop (8 * j + length new) (bits_of s)
  back =
      let n : 8 * (j + bytes_for (length words)) ≡ 8 * j + length new = omega (arith, same) in
      ap bits_of (drop-drop (bytes_for (length words)) j s) ∙ bits_of-drop (j + bytes_for (length words)) s ∙ ap (λ (k : ℕ). drop k (bits_of s)) n

  pub marked-bytes : bits_of (take j s ++ marked words (drop j s)) ≡ sets (bits_of s) (8 * j) new
  marked-bytes =
      let rest : List ℕ = drop (bytes_for (length words)) (drop j s) in
      ap (λ (x : List ℕ). bits_of (take j s ++ x)) (marked-room words (drop j s) (omega (arith, length-drop j s)))
      ∙ bits_of-append (take j s) (packed new ++ rest) ∙ ap₂ ◌++◌ front (bits_of-append (packed new) rest ∙ ap₂ ◌++◌ middle back)
      ∙ sym (sets-parts (bits_of s) (8 * j) new (omega (arith, same, length-bits_of s)))

-- bits packed in the part of the bytes from j on, which is lent out
pub marked-part : (s words r : List ℕ) (j : ℕ) → length words % 8 ≡ 0 → 8 * j + length words ≤ 8 * length s → r ≡ marked words (take (length s - j) (drop j s))
    → bits_of (take j s ++ (r ++ drop (length s - j) (drop j s))) ≡ sets (bits_of s) (8 * j) (zero_bits words)
marked-part s words r j whole room e =
    let n : length (drop j s) ≤ length s - j = omega (arith, length-drop j s) in
    let a : take (length s - j) (drop j s) ≡ drop j s = take_all (length s - j) (drop j s) n in
    let b : drop (length s - j) (drop j s) ≡ [] = drop_of_length-le (drop j s) n in
    ap₂ (λ (x y : List ℕ). bits_of (take j s ++ (x ++ y))) (e ∙ ap (marked words) a) b ∙ ap (λ (x : List ℕ). bits_of (take j s ++ x)) (append-nil (marked words (drop j s)))
    ∙ marked-bytes s words j whole room

-- the disable bits of the first k words, of those up to word m, and of the rest, put one after the other
pub marked_thrice : (l part : List ℕ) (at k m : ℕ) → k ≤ m → m ≤ length part
    → sets (sets (sets l at (zero_bits (take k part))) (at + k) (zero_bits (take (m - k) (drop k part)))) (at + m) (zero_bits (drop m part)) ≡ sets l at (zero_bits part)
marked_thrice l part at k m h i =
    let a : List ℕ = zero_bits (take k part) in
    let b : List ℕ = zero_bits (take (m - k) (drop k part)) in
    let c : List ℕ = zero_bits (drop m part) in
    let la : length a ≡ k = length-map (take k part) zero_bit ∙ length-take-le k part (omega arith) in
    let lb : length b ≡ m - k = length-map (take (m - k) (drop k part)) zero_bit ∙ length-take-le (m - k) (drop k part) (omega (arith, length-drop k part)) in
    let s : k + (m - k) ≡ m = omega arith in
    let d : drop (m - k) (drop k part) ≡ drop m part = drop-drop (m - k) k part ∙ ap (λ (n : ℕ). drop n part) s in
    let w : zero_bits part ≡ a ++ (b ++ c) =
    ap zero_bits (sym (take-append-drop k part)) ∙ map-append zero_bit (take k part) (drop k part)
    ∙ ap (λ (x : List ℕ). a ++ x) (ap zero_bits (sym (take-append-drop (m - k) (drop k part))) ∙ map-append zero_bit (take (m - k) (drop k part)) (drop (m - k) (drop k part)) ∙ ap (λ (x : List ℕ). b ++ zero_bits x) d) in
    let f : at + length a ≡ at + k = omega (arith, la) in
    let g : at + k + length b ≡ at + m = omega (arith, lb) in
    sym (ap (sets l at) w ∙ sets-append l at a (b ++ c) ∙ ap (λ (n : ℕ). sets (sets l at a) n (b ++ c)) f
    ∙ sets-append (sets l at a) (at + k) b c ∙ ap (λ (n : ℕ). sets (sets (sets l at a) (at + k) b) n c) g)

-- bits up to the first whole byte, whole bytes, and the bits after them
pub marked-parts : (l l₁ l₂ l₃ part : List ℕ) (at k m j : ℕ) → at + k ≡ 8 * j → k ≤ m → m ≤ length part → l₁ ≡ sets l at (zero_bits (take k part))
    → l₂ ≡ sets l₁ (8 * j) (zero_bits (take (m - k) (drop k part))) → l₃ ≡ sets l₂ (at + m) (zero_bits (take (length part - m) (drop m part))) → l₃ ≡ sets l at (zero_bits part)
marked-parts l l₁ l₂ l₃ part at k m j e h i f g r =
    let mid : List ℕ = zero_bits (take (m - k) (drop k part)) in
    let put : l₂ ≡ sets (sets l at (zero_bits (take k part))) (at + k) mid = g ∙ ap₂ (λ (x : List ℕ) (q : ℕ). sets x q mid) f (sym e) in
    let rest : take (length part - m) (drop m part) ≡ drop m part = take_all (length part - m) (drop m part) (omega (arith, length-drop m part)) in
    r ∙ ap₂ (λ (x y : List ℕ). sets x (at + m) (zero_bits y)) put rest ∙ marked_thrice l part at k m h i
