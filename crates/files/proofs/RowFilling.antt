-- Filling rows: the words of one phy after the other, and one row after the other.
use Prim.Native.Nat.{ℕ, zero, suc, ◌+◌, ◌-◌, ◌*◌, ◌≤◌, ◌<◌}
use mathlib.Core.Path.{◌≡◌, refl, sym, ◌∙◌, ap, ap₂}
use mathlib.Core.List.{List, [], ◌∷◌, ◌++◌, append-nil}
use native.Mathlib.Omega.{arith}
use lib.ListN.{length, take, drop, set, replicate, length-replicate, length-append, length-drop, drop_of_length-le}
use lib.Seq.{sets, drop-length, drop_at, length-take-le}
use Rattle.frames.specs.Refusals.{Result, refused, good}
use Rattle.frames.specs.declared.Refusal.{Refusal}
use Rattle.frames.proofs.ValuesPut.{sets-front, sets_mid_then}
use Rattle.files.specs.declared.Setting.{Setting}
use Rattle.files.specs.declared.ExpanderUnit.{ExpanderUnit}
use Rattle.files.specs.declared.Phy.{Phy}
use Rattle.files.specs.Domain.{Expander, Domain, address_of}
use Rattle.files.specs.File.{parsed, phy_unit, expander_unit, expander_of}
use Rattle.files.specs.declared.Parsed.{Parsed}
use Rattle.files.specs.Rows.{phy_word, phy_words, head_word, row_of, rows_of, row_words}
use Rattle.files.specs.SecondReading.{phy_got, next_got, and_phys, phys_got, phys_after, then_got, domain_got}

pub cleared : (k : ℕ) (row : List ℕ) → k ≡ length row → replicate k 0 ++ drop k row ≡ replicate (length row) 0
cleared k row e = rw (e, drop-length row, append-nil)

-- the phys that are left
module _ (file : List ℕ) (own_address i n p at : ℕ) where
  phys-got-next : p < n
      → phys_got file own_address i (n - p) p at
      ≡ and_phys (phy_got (phy_unit file own_address i p at)) (phys_got file own_address i (n - (p + 1)) (p + 1) (next_got at (phy_unit file own_address i p at)))
  unfolding phys_got
  phys-got-next h = let e : n - p ≡ suc (n - (p + 1)) = omega arith in simp e

  phys-got-end : n ≤ p → phys_got file own_address i (n - p) p at ≡ parsed [] at
  unfolding phys_got
  phys-got-end h = let e : n - p ≡ 0 = omega arith in rw e

  pub next-go : (next : ℕ) → next ≡ next_got at (phy_unit file own_address i p at) → p < n
      → (phys_got file own_address i (n - (p + 1)) (p + 1) next).next ≡ (phys_got file own_address i (n - p) p at).next
  next-go next q h =
      ap (λ (k : ℕ). (phys_got file own_address i (n - (p + 1)) (p + 1) k).next) q ∙ sym (ap (λ (φs : Parsed (List Phy)). φs.next) (phys-got-next h))

  pub next-end : n ≤ p → (phys_got file own_address i (n - p) p at).next ≡ at
  next-end h = ap (λ (φs : Parsed (List Phy)). φs.next) (phys-got-end h)

  module _ (row : List ℕ) where
    -- a phy's two words stored, and the rest after them
    pub put_go : (a w next : ℕ) → a ≡ address_of (phy_got (phy_unit file own_address i p at)) → w ≡ phy_word (phy_got (phy_unit file own_address i p at))
        → next ≡ next_got at (phy_unit file own_address i p at) → p < n
        → sets (set (set row (2 + 2 * p) a) (2 + 2 * p + 1) w) (2 + 2 * (p + 1)) (phy_words (phys_got file own_address i (n - (p + 1)) (p + 1) next).value)
        ≡ sets row (2 + 2 * p) (phy_words (phys_got file own_address i (n - p) p at).value)
    put_go a w next qa qw qn h =
        let g : 2 + 2 * p + 1 ≡ suc (2 + 2 * p) = omega arith in
        let k : 2 + 2 * (p + 1) ≡ suc (suc (2 + 2 * p)) = omega arith in
        simp (phys-got-next h, g, k, qa, qw, qn)

    pub put-end : n ≤ p → sets row (2 + 2 * p) (phy_words (phys_got file own_address i (n - p) p at).value) ≡ row
    put-end h = rw (phys-got-end h)

pub length-phys_got : (file : List ℕ) (own_address i count p at : ℕ) → length (phys_got file own_address i count p at).value ≡ count
unfolding phys_got
length-phys_got file own_address i zero p at = refl
length-phys_got file own_address i (suc count) p at = ap suc (length-phys_got file own_address i count (p + 1) (next_got at (phy_unit file own_address i p at)))

pub length-phy_words : (φs : List Phy) → length (phy_words φs) ≡ 2 * length φs
length-phy_words [] = refl
length-phy_words (φ ∷ φs) = let e = length-phy_words φs in omega arith

pub length-row_of : (e : Expander) → length e.phys ≤ 128 → length (row_of e) ≡ row_words
unfolding row_of
length-row_of e h =
    let k : length (phy_words e.phys) ≡ 2 * length e.phys = length-phy_words e.phys in
    rw (length-append, length-replicate) (omega arith)

-- a row whose words after the phys are zeros, with its words stored
stored : (l : List ℕ) (a w : ℕ) (ws : List ℕ) → length l ≡ row_words → length ws ≤ 256 → drop (2 + length ws) l ≡ replicate (256 - length ws) 0
    → sets (set (set l 0 a) 1 w) 2 ws ≡ a ∷ w ∷ (ws ++ replicate (256 - length ws) 0)
stored l a w ws n h z =
    let e : 2 + length ws ≡ suc (suc (length ws)) = omega arith in
    sets-front (a ∷ w ∷ ws) l (omega arith) ∙ ap (λ (m : List ℕ). a ∷ w ∷ (ws ++ m)) (rw e at z)

-- a row that was all zeros, with its words stored
drop-zeros : (k n : ℕ) → drop {A = ℕ} k (replicate n 0) ≡ replicate (n - k) 0
drop-zeros zero n = let e : n - 0 ≡ n = omega arith in rw e
drop-zeros (suc k) zero = let e : 0 - suc k ≡ 0 = omega arith in rw e
drop-zeros (suc k) (suc n) = let e : suc n - suc k ≡ n - k = omega arith in rw e (drop-zeros k n)

pub stored_in_zeros : (l : List ℕ) (a w : ℕ) (ws : List ℕ) → l ≡ replicate row_words 0 → length ws ≤ 256
    → sets (set (set l 0 a) 1 w) 2 ws ≡ a ∷ w ∷ (ws ++ replicate (256 - length ws) 0)
stored_in_zeros l a w ws q h =
    let n : length l ≡ row_words = ap length q ∙ length-replicate {A = ℕ} row_words 0 in
    let e : row_words - (2 + length ws) ≡ 256 - length ws = omega arith in
    stored l a w ws n h (ap (drop (2 + length ws)) q ∙ drop-zeros (2 + length ws) row_words ∙ ap (λ (k : ℕ). replicate k 0) e)

pub row_made : (u : ExpanderUnit) (l : List ℕ) (w : ℕ) (file : List ℕ) (i at : ℕ) → length l ≡ row_words → drop (2 + 2 * u.phys) l ≡ replicate (256 - 2 * u.phys) 0
    → w ≡ head_word u.route_indexes u.phys u.configurable → u.phys ≤ 128
    → sets (set (set l 0 u.address) 1 w) 2 (phy_words (phys_got file u.address i u.phys 0 at).value)
    ≡ row_of (expander_of u (phys_got file u.address i u.phys 0 at).value)
unfolding row_of
row_made u l w file i at n z ew b =
    let φs : List Phy = (phys_got file u.address i u.phys 0 at).value in
    let k : length φs ≡ u.phys = length-phys_got file u.address i u.phys 0 at in
    let q : length (phy_words φs) ≡ 2 * u.phys = length-phy_words φs ∙ ap (λ (x : ℕ). 2 * x) k in
    stored l u.address w (phy_words φs) n (omega arith) (rw q z) ∙ rw (ew, k)

-- the words from k on were cleared
pub tail_cleared : (k m : ℕ) (row part : List ℕ) → length row ≡ row_words → k ≤ row_words → m ≡ row_words - k → part ≡ replicate (length (take m (drop k row))) 0
    → drop k (take k row ++ (part ++ drop m (drop k row))) ≡ replicate (row_words - k) 0
tail_cleared k m row part n h e z =
    let a : length (take k row) ≡ k = length-take-le k row (omega arith) in
    let b = length-drop k row in
    let c : length (take m (drop k row)) ≡ row_words - k = length-take-le m (drop k row) (omega arith) ∙ e in
    let p : drop m (drop k row) ≡ [] = let q : length (drop k row) ≤ m = omega arith in drop_of_length-le (drop k row) q in
    drop_at (take k row) (part ++ drop m (drop k row)) k a ∙ rw (z, c, p, append-nil)

-- the expanders that are left
module _ (most : Setting) (file : List ℕ) (n i at : ℕ) where
  got-next : (x : Result (Parsed ExpanderUnit)) → expander_unit most file [] i at ≡ x → i < n
      → domain_got most file (n - i) i at
      ≡ then_got x (λ u. expander_of u.value (phys_after file i u).value ∷ domain_got most file (n - (i + 1)) (i + 1) (phys_after file i u).next)
  unfolding domain_got
  got-next x q l = let e : n - i ≡ suc (n - (i + 1)) = omega arith in simp (e, q)

  got-end : n ≤ i → domain_got most file (n - i) i at ≡ []
  unfolding domain_got
  got-end l = let e : n - i ≡ 0 = omega arith in rw e

  -- a turn that stops, one that goes on, and the end
  module _ (ws : List ℕ) {v : List ℕ} (inv : sets ws (row_words * i) (rows_of (domain_got most file (n - i) i at)) ≡ v) where
    pub rows-stop : {r : Refusal} → expander_unit most file [] i at ≡ refused r → i < n → ws ≡ v
    unfolding rows_of
    rows-stop q l = sym (ap (λ (d : Domain). sets ws (row_words * i) (rows_of d)) (got-next _ q l)) ∙ inv

    pub rows_end : n ≤ i → ws ≡ v
    unfolding rows_of
    rows_end l = sym (ap (λ (d : Domain). sets ws (row_words * i) (rows_of d)) (got-end l)) ∙ inv

    pub rows-go : (u : Parsed ExpanderUnit) (a k next : ℕ) (r : List ℕ) → expander_unit most file [] i at ≡ good u
        → r ≡ row_of (expander_of u.value (phys_after file i u).value) → next ≡ (phys_after file i u).next
        → a ≡ row_words * i → k ≡ row_words → length r ≡ row_words → row_words * (i + 1) ≤ length ws → i < n
        → sets (take a ws ++ (r ++ drop k (drop a ws))) (row_words * (i + 1)) (rows_of (domain_got most file (n - (i + 1)) (i + 1) next)) ≡ v
    unfolding rows_of
    rows-go u a k next r q qr qn qa qk l t s =
        sets_mid_then ws r (rows_of (domain_got most file (n - (i + 1)) (i + 1) next)) (row_words * i) (row_words * (i + 1)) a k qa (omega arith) (omega arith) t
        ∙ ap₂ (λ (x : List ℕ) (m : ℕ). sets ws (row_words * i) (x ++ rows_of (domain_got most file (n - (i + 1)) (i + 1) m))) qr qn
        ∙ sym (ap (λ (d : Domain). sets ws (row_words * i) (rows_of d)) (got-next _ q s)) ∙ inv
