-- How many words change: cut at a place, one change after another, and counted word by word as words are written.
use Prim.Native.Nat.{ℕ, zero, suc, ◌+◌, ◌-◌, ◌≤◌, ◌<◌}
use mathlib.Core.Path.{◌≡◌, refl, sym, ◌∙◌, ap}
use mathlib.Core.Bool.{cond}
use mathlib.Core.List.{List, [], ◌∷◌, ◌++◌}
use native.Mathlib.Omega.{arith}
use lib.ListN.{length, get_or, take, drop, set, length-append}
use lib.Seq.{take_at, drop_at, drop-drop, take-take, take-set-le, drop-set-lt, length-take-le}
use lib.Dec.{eqb}
use borrow.Author.Tests.{eq-eqb}
use Rattle.tables.specs.declared.filling.table_filling.Copied.{Copied}
use Rattle.tables.specs.filling.WordsChanged.{changed, copied, Replaced}
use Rattle.tables.specs.lists.GrowingLists.{Grown}
use Rattle.tables.proofs.lists.GrowingLists.{grown-length}

changed-nil : (a : List ℕ) → changed a [] ≡ 0
unfolding changed
changed-nil [] = refl
changed-nil (v ∷ a) = refl

pub changed-self : (a : List ℕ) → changed a a ≡ 0
unfolding changed
changed-self [] = refl
changed-self (v ∷ a) = let s = changed-self a in rw (eq-eqb v v refl) (omega arith)

pub changed_split : (m : ℕ) (a b : List ℕ) → changed a b ≡ changed (take m a) (take m b) + changed (drop m a) (drop m b)
unfolding changed
changed_split zero a b = omega arith
changed_split (suc m) [] b = refl
changed_split (suc m) (v ∷ a) [] = omega (arith, changed-nil (drop m a))
changed_split (suc m) (v ∷ a) (w ∷ b) = omega (arith, changed_split m a b)

-- the second change is after the first
pub changed_then : (m : ℕ) (a b c : List ℕ) → drop m b ≡ drop m a → take m c ≡ take m b → changed a c ≡ changed a b + changed b c
changed_then m a b c p q =
    let s₁ = changed_split m a c in
    let s₂ = changed_split m a b in
    let s₃ = changed_split m b c in
    let e₁ : changed (take m a) (take m c) ≡ changed (take m a) (take m b) = ap (changed (take m a)) q in
    let e₂ : changed (drop m a) (drop m c) ≡ changed (drop m b) (drop m c) = ap (λ (x : List ℕ). changed x (drop m c)) (sym p) in
    let e₃ : changed (drop m a) (drop m b) ≡ 0 = ap (changed (drop m a)) p ∙ changed-self (drop m a) in
    let e₄ : changed (take m b) (take m c) ≡ 0 = ap (changed (take m b)) q ∙ changed-self (take m b) in
    omega arith

-- only a part in the middle is new
pub changed-part : (p a b s : List ℕ) → length a ≡ length b → changed (p ++ (a ++ s)) (p ++ (b ++ s)) ≡ changed a b
changed-part p a b s q =
    let m : ℕ = length p in
    let n : ℕ = length a in
    let s₁ = changed_split m (p ++ (a ++ s)) (p ++ (b ++ s)) in
    let s₂ = changed_split n (a ++ s) (b ++ s) in
    let t₁ : changed (take m (p ++ (a ++ s))) (take m (p ++ (b ++ s))) ≡ 0 = rw (take_at p (a ++ s) m refl, take_at p (b ++ s) m refl) (changed-self p) in
    let t₂ : changed (drop m (p ++ (a ++ s))) (drop m (p ++ (b ++ s))) ≡ changed (a ++ s) (b ++ s) = rw (drop_at p (a ++ s) m refl, drop_at p (b ++ s) m refl) in
    let t₃ : changed (take n (a ++ s)) (take n (b ++ s)) ≡ changed a b = rw (take_at a s n refl, take_at b s n (sym q)) in
    let t₄ : changed (drop n (a ++ s)) (drop n (b ++ s)) ≡ 0 = rw (drop_at a s n refl, drop_at b s n (sym q)) (changed-self s) in
    omega arith

-- one word
changed-set : (l : List ℕ) (j v : ℕ) → j < length l → changed l (set l j v) ≡ cond (eqb (get_or l j 0) v) 0 1
unfolding changed
changed-set [] j v h = absurd (omega arith)
changed-set (x ∷ l) zero v h = omega (arith, changed-self l)
changed-set (x ∷ l) (suc j) v h = rw (eq-eqb x x refl) (omega (arith, changed-set l j v (omega arith)))

-- words written from one place on up to another: none, some and then others, and one more
pub replaced-none : (s : Copied) (l : List ℕ) → Replaced s s l l
replaced-none s l = record { counted = omega (arith, changed-self l); kept = refl; less = omega arith }

pub replaced-then : (s t r : Copied) (a b c : List ℕ) → Replaced s t a b → Replaced t r b c → take t.at c ≡ take t.at b → t.at ≤ r.at → Replaced s r a c
replaced-then s t r a b c u v q h =
    let m : ℕ = t.at in
    let n : ℕ = r.at - t.at in
    let e : r.at ≡ m + n = omega arith in
    let w : drop r.at b ≡ drop r.at a =
    ap (λ (k : ℕ). drop k b) e ∙ sym (drop-drop n m b) ∙ ap (drop n) u.kept ∙ drop-drop n m a ∙ sym (ap (λ (k : ℕ). drop k a) e) in
    record {
      counted = omega (arith, u.counted, v.counted, changed_then m a b c u.kept q);
      kept = v.kept ∙ w;
      less = omega (arith, u.less, v.less);
    }

pub replaced-more : (s : Copied) (to sum x v : ℕ) (before part : List ℕ) → Replaced s (copied to sum) before part → x ≡ cond (eqb (get_or part to 0) v) 0 1 → x ≤ 1 → to < length part
    → Replaced s (copied (to + 1) (sum + x)) before (set part to v)
replaced-more s to sum x v before part u q h k =
    let one : Replaced (copied to sum) (copied (to + 1) (sum + x)) part (set part to v) =
    record { counted = omega (arith, changed-set part to v k); kept = drop-set-lt (to + 1) part to v (omega arith); less = omega arith } in
    replaced-then s (copied to sum) (copied (to + 1) (sum + x)) before part (set part to v) u one (take-set-le to part to v (omega arith)) (omega arith)

-- a list more after the first words
pub replaced-grown : (s t r : Copied) (a b c l : List ℕ) → Replaced s t a b → Replaced t r b c → Grown b c r.at (take t.at b ++ l) → t.at ≤ length b → Replaced s r a c
replaced-grown s t r a b c l u v g h =
    let n = length-take-le t.at b h in
    let k : t.at ≤ r.at = omega (arith, grown-length g, length-append (take t.at b) l) in
    let q : take t.at c ≡ take t.at b = sym (take-take t.at r.at c k) ∙ ap (take t.at) g.whole ∙ take_at (take t.at b) l t.at n in
    replaced-then s t r a b c u v q k

-- all words, where the last ones are written after the first
pub all-counted : (t : Copied) (r : ℕ) (a b c l : List ℕ) → Replaced (copied 0 0) t a b → c ≡ take t.at b ++ l → r ≡ t.words + changed b c → t.at ≤ length b → r ≡ changed a c
all-counted t r a b c l u q e h =
    let m : ℕ = t.at in
    omega (arith, u.counted, changed_then m a b c u.kept (ap (take m) q ∙ take_at (take m b) l m (length-take-le m b h)))
