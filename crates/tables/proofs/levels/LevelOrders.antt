-- The order of a phy, made in a queue: past causes 1 to 12 it is the levels, level by level.
use Prim.Native.Nat.{ℕ, zero, suc, ◌+◌, ◌-◌, ◌*◌, ◌≤◌, ◌<◌}
use mathlib.Core.Path.{◌≡◌, refl, sym, ◌∙◌, ap, subst, subst₂}
use mathlib.Core.Bool.{Bool, true, false, not, ◌||◌, ◌&&◌}
use mathlib.Core.Logic.{inl, inr, ⊎_elim}
use mathlib.Core.List.{List, [], ◌∷◌, ◌++◌, flat_map, append-nil, append_assoc}
use native.Mathlib.Omega.{arith}
use lib.ListN.{length, get_or, take, drop, length-append, take-append-drop, drop_of_length-le}
use lib.Seq.{take_all, get_or-take, length-take-le}
use lib.Dec.{T, eqb, eqb→eq, not_T}
use Rattle.files.specs.declared.Phy.{Phy}
use Rattle.files.specs.Lists.{any, keep, is_in, In, Distinct}
use Rattle.files.specs.Domain.{Domain, phy_at, address_of, is_table, to_expander, number_of}
use Rattle.wiring.specs.phys.PhyCauses.{far_phy}
use Rattle.files.proofs.ListMembers.{T?, is_true, is_false, keep-more, in_flat_map, of-is_in}
use Rattle.wiring.proofs.phys.WiredPhys.{Wired, far-below, far-is}
use Rattle.wiring.specs.WiringCauses.{Linked}
use Rattle.tables.specs.levels.Levels.{each_once, down, downstream_of_phys, downstream, next_level, levels_from, levels}
use Rattle.tables.specs.lists.GrowingLists.{Grown}
use Rattle.tables.specs.lists.PreparedLists.{downstream_once, queue, order_of, one_link, most_downstream}
use Rattle.tables.proofs.levels.EachOnce.{once_skip, once-take}
use Rattle.tables.proofs.levels.LevelsBeyond.{Table, Deep, top, deeper, deep_once, next_deep, deep_small, in_downstream, not_both, table-back, next-distinct, down-leads, levels-few}
use Rattle.tables.proofs.levels.DownstreamLists.{downstream-none, downstream-one, downstream-few, linked-number}
use Rattle.tables.proofs.lists.GrowingLists.{grown-length}
use Rattle.tables.proofs.lists.LevelListLaw.{one-above, levels-empty}

-- the queue
module _ (d : Domain) where
  pub queue-none : (t : ℕ) → queue t d [] ≡ []
  unfolding queue
  queue-none zero = refl
  queue-none (suc t) = refl

  -- one expander is followed
  pub queue-step : (t k : ℕ) (l : List ℕ) → k < length l
      → take (suc k) (l ++ downstream_once d (get_or l k 0)) ++ queue t d (drop (suc k) (l ++ downstream_once d (get_or l k 0))) ≡ take k l ++ queue (suc t) d (drop k l)
  unfolding queue
  queue-step t k [] h = absurd (omega arith)
  queue-step t zero (x ∷ l) h = refl
  queue-step t (suc k) (x ∷ l) h = ap (λ (m : List ℕ). x ∷ m) (queue-step t k l (omega arith))

  -- all that wait are followed, before those below them
  queue-all : (xs ys : List ℕ) (t : ℕ) → queue (t + length xs) d (xs ++ ys) ≡ xs ++ queue t d (ys ++ flat_map (downstream_once d) xs)
  unfolding queue flat_map
  queue-all [] ys t = let z : t + 0 ≡ t = omega arith in ap (λ (n : ℕ). queue n d ys) z ∙ ap (queue t d) (sym (append-nil ys))
  queue-all (x ∷ xs) ys t =
      let z : t + suc (length xs) ≡ suc (t + length xs) = omega arith in
      ap (λ (n : ℕ). queue n d (x ∷ (xs ++ ys))) z
      ∙ ap (λ (m : List ℕ). x ∷ m)
      (ap (queue (t + length xs) d) (append_assoc xs ys (downstream_once d x)) ∙ queue-all xs (ys ++ downstream_once d x) t
      ∙ ap (λ (m : List ℕ). xs ++ queue t d m) (append_assoc ys (downstream_once d x) (flat_map (downstream_once d) xs)))

-- the levels go on from no phy that is attached to no expander
pub not_down : (d : Domain) (φ : Phy) → to_expander φ ≡ false → down d φ ≡ false
not_down d φ h = ap (λ b. b && (is_table φ && not (is_table (far_phy d φ)))) h

-- a phy where the levels do not go on has no order
pub order-none : (d : Domain) (φ : Phy) → down d φ ≡ false → order_of d φ ≡ []
unfolding order_of
order-none d φ q = ap (queue (length d) d) (downstream-none d φ q) ∙ queue-none d (length d)

-- phys of one link have the same order
pub order-linked : (d : Domain) (φ ψ : Phy) → T (one_link d φ ψ) → order_of d φ ≡ order_of d ψ
unfolding order_of
order-linked d φ ψ one = ap (queue (length d) d) (linked-number d φ ψ one)

-- the queue so far, from the numbers `first` on: m numbers in `order`, of which k were followed, in at most n turns
pub record Queued (d : Domain) (first : List ℕ) (n k m : ℕ) (order : List ℕ) : Type 0 where
  pub fits : m ≤ length order
  pub few : m ≤ most_downstream * k + 1
  pub met : take k (take m order) ++ queue (n - k) d (drop k (take m order)) ≡ queue n d first

pub queue-start : (d : Domain) (n m : ℕ) (order : List ℕ) → m ≤ length order → m ≤ 1 → Queued d (take m order) n 0 m order
queue-start d n m order h f =
    let e : n - 0 ≡ n = omega arith in
    record { fits = h; few = omega arith; met = ap (λ (t : ℕ). queue t d (take m order)) e }

module _ (d : Domain) {first : List ℕ} {n k m : ℕ} {order : List ℕ} (so : Queued d first n k m order) where
  abbrev l : List ℕ
  l = take m order

  long : length l ≡ m
  long = length-take-le m order so.fits

  pub queue-go : {after : List ℕ} {r : ℕ} → Grown order after r (l ++ downstream_once d (get_or order k 0)) → length d ≤ 64 → k < n → k < m
      → Queued d first n (k + 1) r after
  queue-go {after} {r} g few h i =
      let b : List ℕ = downstream_once d (get_or order k 0) in
      let t : n - k ≡ suc (n - (k + 1)) = omega arith in
      let j : k < length l = omega (arith, long) in
      let e = get_or-take m order k 0 i in
      let u : k + 1 ≡ suc k = omega arith in
      record {
        fits = omega (arith, g.same, g.fits);
        few = omega (arith, so.few, grown-length g, length-append l b, long, downstream-few d few (get_or order k 0));
        met = ap (λ (v : ℕ). take v (take r after) ++ queue (n - (k + 1)) d (drop v (take r after))) u
            ∙ ap (λ (v : List ℕ). take (suc k) v ++ queue (n - (k + 1)) d (drop (suc k) v)) (g.whole ∙ ap (λ (v : ℕ). l ++ downstream_once d v) (sym e))
            ∙ queue-step d (n - (k + 1)) k l j ∙ ap (λ (v : ℕ). take k l ++ queue v d (drop k l)) (sym t) ∙ so.met;
      }

  pub queue-stop : m ≤ k → l ≡ queue n d first
  queue-stop h =
      let j : length l ≤ k = omega (arith, long) in
      sym (take_all k l j) ∙ sym (append-nil (take k l)) ∙ ap (λ (v : List ℕ). take k l ++ v) (sym (ap (queue (n - k) d) (drop_of_length-le l j) ∙ queue-none d (n - k)))
      ∙ so.met

  pub queue-end : n ≤ k → l ≡ queue n d first
  unfolding queue
  queue-end h =
      let z : n - k ≡ 0 = omega arith in
      sym (take-append-drop k l) ∙ ap (λ (t : ℕ). take k l ++ queue t d (drop k l)) (sym z) ∙ so.met

-- so the order of phy φ, whose first level is `first`
pub order-by : (d : Domain) (φ : Phy) {l first : List ℕ} {n : ℕ} → l ≡ queue n d first → n ≡ length d → first ≡ downstream_of_phys d (φ ∷ []) → l ≡ order_of d φ
unfolding order_of
order-by d φ {l} {first} e q f = e ∙ ap (λ (t : ℕ). queue t d first) q ∙ ap (queue (length d) d) f

-- numbers once, in parts that share none
is_in-other : (w x : ℕ) (l : List ℕ) → ¬ (w ≡ x) → is_in w (x ∷ l) ≡ is_in w l
unfolding is_in any
is_in-other w x l k = ap (λ (b : Bool). b || is_in w l) (is_false (eqb w x) (λ t. k (eqb→eq w x t)))

is_in-more : (w x : ℕ) (s s' : List ℕ) → is_in w s ≡ is_in w s' → is_in w (x ∷ s) ≡ is_in w (x ∷ s')
unfolding is_in any
is_in-more w x s s' q = ap (λ (b : Bool). eqb w x || b) q

once-same : (s s' l : List ℕ) → ((w : ℕ) → In w l → is_in w s ≡ is_in w s') → each_once s l ≡ each_once s' l
unfolding each_once
once-same s s' [] f = refl
once-same s s' (x ∷ l) f =
    go (is_in x s) refl (once-same s s' l (λ w h. f w (inr h))) (once-same (x ∷ s) (x ∷ s') l (λ w h. is_in-more w x s s' (f w (inr h))))
  where
    go : (b : Bool) → is_in x s ≡ b → each_once s l ≡ each_once s' l → each_once (x ∷ s) l ≡ each_once (x ∷ s') l → each_once s (x ∷ l) ≡ each_once s' (x ∷ l)
    go true q e g = once_skip s x l q ∙ e ∙ sym (once_skip s' x l (sym (f x (inl refl)) ∙ q))
    go false q e g = once-take s x l q ∙ ap (λ (m : List ℕ). x ∷ m) g ∙ sym (once-take s' x l (sym (f x (inl refl)) ∙ q))

once-apart : (seen xs ys : List ℕ) → ((w : ℕ) → In w ys → ¬ (In w xs)) → each_once seen (xs ++ ys) ≡ each_once seen xs ++ each_once seen ys
unfolding each_once
once-apart seen [] ys f = refl
once-apart seen (x ∷ xs) ys f =
    go (is_in x seen) refl (once-apart seen xs ys (λ w h i. f w h (inr i))) (once-apart (x ∷ seen) xs ys (λ w h i. f w h (inr i)))
  where
    other : each_once (x ∷ seen) ys ≡ each_once seen ys
    other = once-same (x ∷ seen) seen ys (λ w h. is_in-other w x seen (λ e. f w h (inl e)))

    go : (b : Bool) → is_in x seen ≡ b → each_once seen (xs ++ ys) ≡ each_once seen xs ++ each_once seen ys
        → each_once (x ∷ seen) (xs ++ ys) ≡ each_once (x ∷ seen) xs ++ each_once (x ∷ seen) ys → each_once seen (x ∷ (xs ++ ys)) ≡ each_once seen (x ∷ xs) ++ each_once seen ys
    go true q e g = once_skip seen x (xs ++ ys) q ∙ e ∙ ap (λ (m : List ℕ). m ++ each_once seen ys) (sym (once_skip seen x xs q))
    go false q e g =
        once-take seen x (xs ++ ys) q ∙ ap (λ (m : List ℕ). x ∷ m) (g ∙ ap (λ (m : List ℕ). each_once (x ∷ seen) xs ++ m) other)
        ∙ ap (λ (m : List ℕ). m ++ each_once seen ys) (sym (once-take seen x xs q))

keep_all : (test : ℕ → Bool) (l : List ℕ) → ((w : ℕ) → In w l → T (test w)) → keep test l ≡ l
unfolding keep
keep_all test [] f = refl
keep_all test (x ∷ l) f = keep-more test x l (f x (inl refl)) ∙ ap (λ (m : List ℕ). x ∷ m) (keep_all test l (λ w h. f w (inr h)))

module _ (d : Domain) (w : Wired d) (r : Linked d) where
  -- no expander is below two
  downstream-apart : (level : List ℕ) → Distinct level → each_once [] (flat_map (downstream d) level) ≡ flat_map (downstream_once d) level
  unfolding each_once flat_map
  downstream-apart [] k = refl
  downstream-apart (i ∷ level) k =
      once-apart [] (downstream d i) (flat_map (downstream d) level)
      (λ v h o. let m = in_flat_map (downstream d) level v h in
      let e = one-above d w r m.0 i v (in_downstream d w r m.0 v m.2) (in_downstream d w r i v o) in
      k.0 (subst (λ (u : ℕ). In u level) e m.1))
      ∙ ap (λ (l : List ℕ). downstream_once d i ++ l) (downstream-apart level k.1)

  module _ (x n : ℕ) (a : Table d x n) where
    -- nothing is left out for being in the level before
    abbrev Onward : List ℕ → List ℕ → Type 0
    Onward before level = (u v : ℕ) → In u before → In v level → Table d v u → ⊥

    next_flat : (before level : List ℕ) → Onward before level → Distinct level → next_level d before level ≡ flat_map (downstream_once d) level
    unfolding next_level
    next_flat before level g k =
        ap (each_once []) (keep_all (λ i. not (is_in i before)) (flat_map (downstream d) level)
        (λ v h. let m = in_flat_map (downstream d) level v h in
        not_T (is_in v before) (λ o. g v m.0 (of-is_in v before o) m.1 (in_downstream d w r m.0 v m.2))))
        ∙ downstream-apart level k

    onward : (j : ℕ) (before level : List ℕ) → ((v : ℕ) → In v level → Deep d w r x n a j v) → Onward level (next_level d before level)
    onward j before level f b v o q z =
        let same = deep_once d w r x n a j (suc (suc j)) b (f b o) (deeper d w r x n a (suc j) v b (next_deep d w r x n a j before level f v q) z) in
        omega arith

    -- the queue from a level on: the levels from there on
    queue-levels : (k j t : ℕ) (before level : List ℕ) → ((v : ℕ) → In v level → Deep d w r x n a j v) → Onward before level → Distinct level
        → length d ≤ suc (k + j) → length (levels_from k d before level) ≤ t → queue t d level ≡ levels_from k d before level
    unfolding levels_from
    queue-levels zero j t before [] f g k h s = queue-none d t
    queue-levels zero j t before (v ∷ level) f g k h s = absurd (omega (arith, deep_small d w r x n a j v (f v (inl refl))))
    queue-levels (suc m) j t before level f g k h s =
        let next : List ℕ = next_level d before level in
        let rest : List ℕ = levels_from m d level next in
        let long = length-append level rest in
        let z : t ≡ t - length level + length level = omega arith in
        ap (λ (y : ℕ). queue y d level) z
        ∙ ap (queue (t - length level + length level) d) (sym (append-nil level))
        ∙ queue-all d level [] (t - length level)
        ∙ ap (λ (l : List ℕ). level ++ l)
        (ap (queue (t - length level) d) (sym (next_flat before level g k))
        ∙ queue-levels m (suc j) (t - length level) level next (next_deep d w r x n a j before level f) (onward j before level f) (next-distinct d before level)
        (omega arith) (omega arith))

  -- the order of phy p of expander x
  order-down : (x p : ℕ) → T (down d (phy_at d x p)) → order_of d (phy_at d x p) ≡ levels d x p
  unfolding order_of levels
  order-down x p t =
      let φ = phy_at d x p in
      let n = number_of d (address_of φ) in
      let l = down-leads d w r x p t in
      let end = far-below d w x p l.expander in
      let to = far-is d w x p l.expander in
      let a : Table d x n = record { phy = p; to = to; routed = l.routed; end = end; single = l.single } in
      let few = (levels-few d w r x p n end to l.routed l.single).1 in
      let e = downstream-one d φ (is_true (down d φ) t) in
      let s : length (levels_from (length d) d (x ∷ []) (n ∷ [])) ≤ length d = subst (λ (v : List ℕ). length (levels_from (length d) d (x ∷ []) v) ≤ length d) e (omega arith) in
      rw e (queue-levels x n a (length d) 0 (length d) (x ∷ []) (n ∷ []) (top d w r x n a)
      (λ u v. ⊎_elim (λ f. ⊎_elim (λ g z. not_both d w n x (table-back d w r x n a) (subst₂ (Table d) g f z)) (λ o. absurd o)) (λ o. absurd o))
      (λ o. o, tt) (omega arith) s)

  pub order-levels : (x p : ℕ) → order_of d (phy_at d x p) ≡ levels d x p
  order-levels x p =
      ⊎_elim (order-down x p)
      (λ k. let φ = phy_at d x p in order-none d φ (is_false (down d φ) k) ∙ sym (levels-empty d x p k))
      (T? (down d (phy_at d x p)))
