-- Disable bits of words, put into bytes turn by turn; each is set exactly where its word is zero, the padding is clear, and
-- the bytes after stay.
use Prim.Native.Nat.{ℕ, zero, suc, ◌+◌, ◌*◌, ◌-◌, ◌^◌, ◌≤◌, ◌<◌}
use mathlib.Core.Path.{◌≡◌, refl, sym, ◌∙◌, ap}
use mathlib.Core.List.{List, [], ◌∷◌, ◌++◌}
use mathlib.Core.Bool.{Bool, true, false, cond, not, beq, true≢false}
use mathlib.Core.Logic.{by_cases}
use native.Mathlib.Decide.{ℕ_discrete}
use native.Mathlib.Omega.{arith}
use native.Mathlib.Numerals.{add-one}
use lib.ListN.{length, get_or, drop, set, length-map, length-append, length-drop, get_or-eq_default}
use lib.Seq.{sets, get_or-drop, drop-drop, drop_at, drop-cons}
use lib.Dec.{eqb, leb}
use lib.Pow.{pow_mono, pow_pos}
use borrow.Author.Tests.{eq-eqb, ne_eqb, le-leb, lt-leb, leb-true}
use Rattle.frames.specs.Bits.{field, bits_of, packed_in, bytes_for, packed, zero_bit, zero_bits, marked}
use Rattle.frames.proofs.PackedBits.{Bits, pow-suc, field_next, length-packed_in, bits-drop, bit-packed}
use Rattle.frames.proofs.NumberBits.{field_lt}
use Rattle.frames.proofs.ValuesPut.{sets-front}

-- the disable bit of word i
zero_is : (words : List ℕ) (i : ℕ) → i < length words → get_or (zero_bits words) i 0 ≡ zero_bit (get_or words i 0)
zero_is [] i h = absurd (omega arith)
zero_is (w ∷ words) zero h = refl
zero_is (w ∷ words) (suc i) h = zero_is words i (omega arith)

pub zero_yes : (words : List ℕ) (i : ℕ) → i < length words → get_or words i 0 ≡ 0 → 1 ≡ get_or (zero_bits words) i 0
zero_yes words i h e = sym (zero_is words i h ∙ rw (eq-eqb (get_or words i 0) 0 e))

pub zero_no : (words : List ℕ) (i : ℕ) → i < length words → (get_or words i 0 ≡ 0 → ⊥) → 0 ≡ get_or (zero_bits words) i 0
zero_no words i h e = sym (zero_is words i h ∙ rw (ne_eqb (get_or words i 0) 0 e))

pub zero-none : (words : List ℕ) (i : ℕ) → length words ≤ i → 0 ≡ get_or (zero_bits words) i 0
zero-none words i h = sym (get_or-eq_default (zero_bits words) 0 (omega (arith, length-map words zero_bit)))

pub bits-zero_bits : (words : List ℕ) → Bits (zero_bits words)
bits-zero_bits [] = tt
bits-zero_bits (w ∷ words) = (go (eqb w 0), bits-zero_bits words)
  where
    go : (b : Bool) → cond b 1 0 < 2
    go true = omega arith
    go false = omega arith

-- a number of k bits with one bit more
pub digit : (x b k : ℕ) → x < 2 ^ k → b < 2 → 2 * x + b < 2 ^ (k + 1)
digit x b k h l = let e = pow-suc k in rw add-one (omega arith)

pub eight : (k : ℕ) → k ≤ 8 → 2 ^ k ≤ 2 ^ 8
eight k h = pow_mono {i = k} {j = 8} h

pub field-none : (l : List ℕ) → 0 ≡ field 0 l
unfolding field
field-none [] = refl
field-none (b ∷ l) = refl

pub field-more : (k at : ℕ) (l : List ℕ) (x b : ℕ) → x ≡ field k (drop at l) → b ≡ get_or l (at + k) 0 → 2 * x + b ≡ field (k + 1) (drop at l)
field-more k at l x b e f = rw add-one (sym (field_next k (drop at l) ∙ rw (← e, get_or-drop at l k 0, ← f)))

-- whether a bit and the n after it, whose number is f, are all set (`z`) or all clear: as the n are where the bit is so, and no
-- where it is not
same_bit : (b z : Bool) (n f : ℕ) → not (beq b z) ≡ false → eqb (cond b 1 0 * 2 ^ n + f) (cond z (2 ^ suc n - 1) 0) ≡ eqb f (cond z (2 ^ n - 1) 0)
same_bit true true n f e =
    let p = pow-suc n in
    let q = pow_pos n in
    by_cases (ℕ_discrete f (2 ^ n - 1)) (λ h. eq-eqb (1 * 2 ^ n + f) (2 ^ suc n - 1) (omega arith) ∙ sym (eq-eqb f (2 ^ n - 1) h))
    (λ h. ne_eqb (1 * 2 ^ n + f) (2 ^ suc n - 1) (λ g. h (omega arith)) ∙ sym (ne_eqb f (2 ^ n - 1) h))
same_bit true false n f e = absurd (true≢false e)
same_bit false true n f e = absurd (true≢false e)
same_bit false false n f e = let q : 0 * 2 ^ n + f ≡ f = omega arith in rw q refl

other-bit : (b z : Bool) (n f : ℕ) → not (beq b z) ≡ true → f < 2 ^ n → eqb (cond b 1 0 * 2 ^ n + f) (cond z (2 ^ suc n - 1) 0) ≡ false
other-bit true true n f e h = absurd (true≢false (sym e))
other-bit true false n f e h = ne_eqb (1 * 2 ^ n + f) 0 (λ g. omega arith)
other-bit false true n f e h = let p = pow-suc n in ne_eqb (0 * 2 ^ n + f) (2 ^ suc n - 1) (λ g. omega arith)
other-bit false false n f e h = absurd (true≢false (sym e))

-- whether n disable bits from k on are all set (`z`) or all clear: `inv` is the loop's invariant
module _ (z : Bool) (words : List ℕ) (n k : ℕ) {v : Bool} (inv : eqb (field n (drop k (zero_bits words))) (cond z (2 ^ n - 1) 0) ≡ v) where
  alike_next : 0 < n → k < length words
      → eqb (zero_bit (get_or words k 0) * 2 ^ (n - 1) + field (n - 1) (drop (k + 1) (zero_bits words))) (cond z (2 ^ suc (n - 1) - 1) 0) ≡ v
  unfolding field
  alike_next h g =
      let l : List ℕ = zero_bits words in
      let e : n ≡ suc (n - 1) = omega arith in
      let d : drop k l ≡ zero_bit (get_or words k 0) ∷ drop (k + 1) l = rw add-one (drop-cons l k 0 (omega (arith, length-map words zero_bit)) ∙ rw (zero_is words k g)) in
      sym (ap (λ (m : ℕ). eqb (field m (drop k l)) (cond z (2 ^ m - 1) 0)) e ∙ ap (λ (m : List ℕ). eqb (field (suc (n - 1)) m) (cond z (2 ^ suc (n - 1) - 1) 0)) d) ∙ inv

  pub alike-go : not (beq (eqb (get_or words k 0) 0) z) ≡ false → 0 < n → k < length words
      → eqb (field (n - 1) (drop (k + 1) (zero_bits words))) (cond z (2 ^ (n - 1) - 1) 0) ≡ v
  alike-go e h g = sym (same_bit (eqb (get_or words k 0) 0) z (n - 1) (field (n - 1) (drop (k + 1) (zero_bits words))) e) ∙ alike_next h g

  pub alike-stop : not (beq (eqb (get_or words k 0) 0) z) ≡ true → 0 < n → k < length words → false ≡ v
  alike-stop e h g =
      let l : List ℕ = drop (k + 1) (zero_bits words) in
      sym (other-bit (eqb (get_or words k 0) 0) z (n - 1) (field (n - 1) l) e (field_lt (n - 1) l (bits-drop (k + 1) (zero_bits words) (bits-zero_bits words)))) ∙ alike_next h g

  pub alike_end : n ≤ 0 → true ≡ v
  alike_end h =
      let e : n ≡ 0 = omega arith in
      sym (ap (λ (m : ℕ). eqb (field m (drop k (zero_bits words))) (cond z (2 ^ m - 1) 0)) e ∙ rw (← field-none (drop k (zero_bits words))) (none z)) ∙ inv
    where
      none : (b : Bool) → eqb 0 (cond b (2 ^ 0 - 1) 0) ≡ true
      none true = refl
      none false = refl

-- putting byte after byte: a turn, the start and the end
pub mark-turn : (v s l : List ℕ) (i n b : ℕ) → i < n → sets s i (packed_in (n - i) (drop (8 * i) l)) ≡ v → b ≡ field 8 (drop (8 * i) l)
    → sets (set s i b) (i + 1) (packed_in (n - (i + 1)) (drop (8 * (i + 1)) l)) ≡ v
unfolding packed_in
mark-turn v s l i n b h inv e =
    let w : n - i ≡ suc (n - suc i) = omega arith in
    let d : drop 8 (drop (8 * i) l) ≡ drop (8 * (i + 1)) l = drop-drop 8 (8 * i) l ∙ (let a : 8 * i + 8 ≡ 8 * (i + 1) = omega arith in rw a) in
    rw (e, ← d, add-one) (rw w at inv)

-- there is room
pub marked-room : (words before : List ℕ) → bytes_for (length words) ≤ length before → marked words before ≡ packed (zero_bits words) ++ drop (bytes_for (length words)) before
unfolding marked
marked-room words before h = simp (le-leb (bytes_for (length words)) (length before) h)

pub marked-short : (words before : List ℕ) → length before < bytes_for (length words) → marked words before ≡ before
unfolding marked
marked-short words before h = simp (lt-leb (bytes_for (length words)) (length before) h)

pub mark-start : (words s : List ℕ) (n : ℕ) → n ≡ bytes_for (length words) → n ≤ length s
    → sets s 0 (packed_in (n - 0) (drop (8 * 0) (zero_bits words))) ≡ marked words s
mark-start words s n f h =
    let l : List ℕ = zero_bits words in
    let e : n - 0 ≡ n = omega arith in
    let k = length-packed_in n (zero_bits words) in
    let m = length-map words zero_bit in
    let p : packed_in n (zero_bits words) ++ drop n s ≡ packed (zero_bits words) ++ drop (bytes_for (length words)) s = rw (f, m) in
    rw e (sets-front (packed_in n (zero_bits words)) s (omega arith) ∙ ap (λ (m : ℕ). packed_in n (zero_bits words) ++ drop m s) k ∙ p ∙ sym (marked-room words s (omega arith)))

pub mark-end : (v s l : List ℕ) (i n : ℕ) → n ≤ i → sets s i (packed_in (n - i) (drop (8 * i) l)) ≡ v → s ≡ v
unfolding packed_in
mark-end v s l i n h inv = let w : n - i ≡ 0 = omega arith in rw w at inv

length-packed : (words : List ℕ) → length (packed (zero_bits words)) ≡ bytes_for (length words)
length-packed words = length-packed_in (bytes_for (length (zero_bits words))) (zero_bits words) ∙ ap bytes_for (length-map words zero_bit)

pub length_marked : (words before : List ℕ) → length (marked words before) ≡ length before
unfolding marked
length_marked words before = go (leb (bytes_for (length words)) (length before)) refl
  where
    go : (b : Bool) → leb (bytes_for (length words)) (length before) ≡ b → length (cond b (packed (zero_bits words) ++ drop (bytes_for (length words)) before) before) ≡ length before
    go true t =
        let p = length-packed words in
        let d = length-drop (bytes_for (length words)) before in
        let l = leb-true (bytes_for (length words)) (length before) t in
        rw (length-append (packed (zero_bits words))) (omega arith)
    go false t = refl

module _ (words before : List ℕ) (room : bytes_for (length words) ≤ length before) where
  bit-marked : (k : ℕ) → k < 8 * bytes_for (length words) → get_or (bits_of (marked words before)) k 0 ≡ get_or (zero_bits words) k 0
  bit-marked k h =
      let m = length-map words zero_bit in
      ap (λ (s : List ℕ). get_or (bits_of s) k 0) (marked-room words before room)
      ∙ bit-packed (bytes_for (length (zero_bits words))) (zero_bits words) (drop (bytes_for (length words)) before) k (bits-zero_bits words) (omega arith)

  -- a bit is set exactly where its word is zero
  pub marked-bits : (k : ℕ) → k < length words → get_or (bits_of (marked words before)) k 0 ≡ zero_bit (get_or words k 0)
  marked-bits k h = bit-marked k (omega arith) ∙ zero_is words k h

  -- the bits that pad the last byte are clear
  pub marked-padding : (k : ℕ) → length words ≤ k → k < 8 * bytes_for (length words) → get_or (bits_of (marked words before)) k 0 ≡ 0
  marked-padding k h g = bit-marked k g ∙ sym (zero-none words k h)

  -- the bytes after stay
  pub marked-after : drop (bytes_for (length words)) (marked words before) ≡ drop (bytes_for (length words)) before
  marked-after =
      ap (drop (bytes_for (length words))) (marked-room words before room)
      ∙ drop_at (packed (zero_bits words)) (drop (bytes_for (length words)) before) (bytes_for (length words)) (length-packed words)
