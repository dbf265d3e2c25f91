-- Which words count: one by one, and in front where words were put with their bits.
use Prim.Native.Nat.{ℕ, zero, suc, ◌+◌, ◌≤◌, ◌<◌}
use mathlib.Core.Path.{◌≡◌, refl, sym, ap, ap₂, ◌∙◌}
use mathlib.Core.Bool.{Bool, true, false, cond}
use mathlib.Core.List.{List, [], ◌∷◌, ◌++◌}
use native.Mathlib.Omega.{arith}
use lib.ListN.{length, get_or, drop}
use lib.Seq.{get_or-drop, drop-drop}
use lib.Dec.{eqb}
use borrow.Author.Tests.{eqb-true}
use Rattle.wiring.specs.FrameDefinitions.{bits_of, bytes_for, zero_bit, marked}
use Rattle.wiring.proofs.FrameLemmas.{marked-bits}
use Rattle.tables.specs.filling.Entries.{Entries, put_before, counted_by, counted}

pub counted-length : (bits words : List ℕ) → length (counted_by bits words) ≡ length words
unfolding counted_by
counted-length bits [] = refl
counted-length bits (w ∷ words) = ap suc (counted-length (drop 1 bits) words)

-- word k counts as itself where its bit is clear
pub counted-at : (bits words : List ℕ) (k : ℕ) → k < length words → get_or (counted_by bits words) k 0 ≡ cond (eqb (get_or bits k 0) 0) (get_or words k 0) 0
unfolding counted_by
counted-at bits [] k h = absurd (omega arith)
counted-at bits (w ∷ words) zero h = refl
counted-at bits (w ∷ words) (suc k) h =
    let e : 1 + k ≡ suc k = omega arith in
    counted-at (drop 1 bits) words k (omega arith) ∙ ap (λ (b : ℕ). cond (eqb b 0) (get_or words k 0) 0) (get_or-drop 1 bits k 0 ∙ ap (λ (i : ℕ). get_or bits i 0) e)

-- words whose bits are set exactly where they are zero count as themselves, whatever stands after
counted-front : (bits l rest : List ℕ) → ((k : ℕ) → k < length l → get_or bits k 0 ≡ zero_bit (get_or l k 0))
    → counted_by bits (l ++ rest) ≡ l ++ counted_by (drop (length l) bits) rest
unfolding counted_by
counted-front bits [] rest h = refl
counted-front bits (w ∷ l) rest h =
    let e : 1 + length l ≡ suc (length l) = omega arith in
    let i = counted-front (drop 1 bits) l rest (λ k u. get_or-drop 1 bits k 0 ∙ (let f : 1 + k ≡ suc k = omega arith in ap (λ (i : ℕ). get_or bits i 0) f) ∙ h (suc k) (omega arith)) in
    ap₂ (λ (x : ℕ) (y : List ℕ). x ∷ y) (ap (λ (b : ℕ). cond (eqb b 0) w 0) (h 0 (omega arith)) ∙ itself (eqb w 0) refl)
    (i ∙ ap (λ (x : List ℕ). l ++ counted_by x rest) (drop-drop (length l) 1 bits ∙ ap (λ (n : ℕ). drop n bits) e))
  where
    itself : (b : Bool) → eqb w 0 ≡ b → cond (eqb (cond b 1 0) 0) w 0 ≡ w
    itself true t = sym (eqb-true w 0 t)
    itself false t = refl

-- what counts of words that were put in front with their bits begins with these words
pub counted-put : (l : List ℕ) (before : Entries) → bytes_for (length l) ≤ length before.bits
    → counted (put_before l before) ≡ l ++ counted_by (drop (length l) (bits_of (marked l before.bits))) (drop (length l) before.words)
counted-put l before h = counted-front (bits_of (marked l before.bits)) l (drop (length l) before.words) (marked-bits l before.bits h)
