-- The expanders downstream of an expander, collected phy by phy: a phy of a link that has a lower phy can be skipped.
use Prim.Native.Nat.{ℕ, ◌+◌, ◌≤◌, ◌<◌}
use mathlib.Core.Path.{◌≡◌, refl, sym, ◌∙◌, ap, subst}
use mathlib.Core.Bool.{Bool, true, false, cond, ◌||◌}
use mathlib.Core.Logic.{inl, inr}
use mathlib.Core.List.{List, [], ◌∷◌, ◌++◌}
use native.Mathlib.Omega.{arith}
use lib.ListN.{length, take, length-append}
use lib.Dec.{T, leb, leb→le, le→leb}
use Rattle.files.specs.declared.Phy.{Phy}
use Rattle.files.specs.declared.Phy.TheVariants.{Vacant}
use Rattle.files.specs.Lists.{keep, is_in, In}
use Rattle.files.specs.Domain.{Domain, expander_at, phy_at}
use Rattle.files.proofs.ListMembers.{or_left, or_right, is_true, was_true, is_in-of, of-is_in, in_left, in_right, in_take}
use Rattle.tables.specs.levels.Levels.{downstream_of_phys, downstream}
use Rattle.tables.specs.lists.GrowingLists.{add, add_all, Grown, Added}
use Rattle.tables.specs.lists.PreparedLists.{downstream_once, one_link, most_downstream}
use Rattle.tables.proofs.lists.GrowingLists.{add_all-append}
use Rattle.tables.proofs.levels.DownstreamLists.{downstream-more, downstream-whole, downstream-among, downstream-made, linked-number}

-- numbers that are added again
or_map : (a b c d : Bool) → (T a → T c) → (T b → T d) → T (a || b) → T (c || d)
or_map true b c d f g t = or_left c d (f t)
or_map false b c d f g t = or_right c d (g t)

module _ (room : ℕ) where
  -- adding j changes nothing
  abbrev settled : List ℕ → ℕ → Bool
  settled l j = is_in j l || leb room (length l)

  add-settled : (l : List ℕ) (j : ℕ) → T (settled l j) → add room l j ≡ l
  unfolding add
  add-settled l j t = rw (is_true (settled l j) t)

  -- which stays so with more numbers
  settled-more : (l : List ℕ) (j : ℕ) (m : List ℕ) → T (settled l j) → T (settled (l ++ m) j)
  settled-more l j m =
      let there : T (is_in j l) → T (is_in j (l ++ m)) = λ t. is_in-of j (l ++ m) (in_left l m j (of-is_in j l t)) in
      let full : T (leb room (length l)) → T (leb room (length (l ++ m))) =
      λ t. le→leb room (length (l ++ m)) (omega (arith, leb→le room (length l) t, length-append l m)) in
      or_map (is_in j l) (leb room (length l)) (is_in j (l ++ m)) (leb room (length (l ++ m))) there full

  settled-add : (l : List ℕ) (j k : ℕ) → T (settled l j) → T (settled (add room l k) j)
  unfolding add
  settled-add l j k t = go (settled l k)
    where
      go : (b : Bool) → T (settled (cond b l (l ++ (k ∷ []))) j)
      go true = t
      go false = settled-more l j (k ∷ []) t

  settled_now : (l : List ℕ) (j : ℕ) → T (settled (add room l j) j)
  unfolding add
  settled_now l j = go (settled l j) refl
    where
      m : List ℕ
      m = l ++ (j ∷ [])

      go : (b : Bool) → settled l j ≡ b → T (settled (cond b l m) j)
      go true q = was_true (settled l j) q
      go false q = or_left (is_in j m) _ (is_in-of j m (in_right l (j ∷ []) j (inl refl)))

  settled-all : (js l : List ℕ) (j : ℕ) → T (settled l j) → T (settled (add_all room l js) j)
  unfolding add_all
  settled-all [] l j t = t
  settled-all (k ∷ js) l j t = settled-all js (add room l k) j (settled-add l j k t)

  offered : (js l : List ℕ) (j : ℕ) → In j js → T (settled (add_all room l js) j)
  unfolding add_all
  offered [] l j i = absurd i
  offered (k ∷ js) l j (inl e) = settled-all js (add room l k) j (subst (λ (v : ℕ). T (settled (add room l v) j)) e (settled_now l j))
  offered (k ∷ js) l j (inr i) = offered js (add room l k) j i

  -- so numbers that were added are not added again
  add-again : (js ks l : List ℕ) → ((w : ℕ) → In w ks → In w js) → add_all room (add_all room l js) ks ≡ add_all room l js
  unfolding add_all
  add-again js [] l f = refl
  add-again js (k ∷ ks) l f =
      ap (λ (m : List ℕ). add_all room m ks) (add-settled (add_all room l js) k (offered js l k (f k (inl refl))))
      ∙ add-again js ks l (λ w i. f w (inr i))

-- the list so far, of the phys below p: m numbers in `part`
pub record Collected (d : Domain) (i p m : ℕ) (part : List ℕ) : Type 0 where
  pub room : length part ≡ most_downstream
  pub fits : m ≤ most_downstream
  pub whole : take m part ≡ add_all most_downstream [] (downstream_of_phys d (take p (expander_at d i).phys))

pub collect_start : (d : Domain) (i : ℕ) (part : List ℕ) → length part ≡ most_downstream → Collected d i 0 0 part
unfolding downstream_of_phys keep add_all
collect_start d i part r = record { room = r; fits = omega arith; whole = refl }

module _ (d : Domain) (i p : ℕ) {m : ℕ} {part : List ℕ} (so : Collected d i p m part) where
  abbrev φs : List Phy
  φs = (expander_at d i).phys

  abbrev done : List ℕ
  done = downstream_of_phys d (take p φs)

  abbrev new : List ℕ
  new = downstream_of_phys d (phy_at d i p ∷ [])

  more : p < length φs → add_all most_downstream (take m part) new ≡ add_all most_downstream [] (downstream_of_phys d (take (p + 1) φs))
  more h = ap (λ (l : List ℕ). add_all most_downstream l new) so.whole ∙ sym (ap (add_all most_downstream []) (downstream-more d φs p h) ∙ add_all-append most_downstream [] done new)

  pub collect_go : (φ : Phy) {after : List ℕ} {r : ℕ} → φ ≡ phy_at d i p → Added part after m r (downstream_of_phys d (φ ∷ [])) → p < length φs
      → Collected d i (p + 1) r after
  collect_go φ e g h =
      let s = so.room in
      let f = g.fits in
      record {
        room = g.same ∙ so.room;
        fits = omega arith;
        whole = g.whole ∙ ap (λ (n : ℕ). add_all n (take m part) (downstream_of_phys d (φ ∷ []))) s
            ∙ ap (λ (ψ : Phy). add_all most_downstream (take m part) (downstream_of_phys d (ψ ∷ []))) e ∙ more h;
      }

  -- a lower phy of the link gave the same number
  pub collect_skip : (q : ℕ) → q < p → T (one_link d (phy_at d i p) (phy_at d i q)) → p < length φs → Collected d i (p + 1) m part
  collect_skip q k one h =
      let there : (w : ℕ) → In w new → In w done =
      λ w o. downstream-among d (take p φs) (phy_at d i q) (in_take φs (Vacant 0) q p k (omega arith)) w
      (subst (λ (l : List ℕ). In w l) (linked-number d (phy_at d i p) (phy_at d i q) one) o) in
      let same : take m part ≡ add_all most_downstream (take m part) new =
      so.whole ∙ sym (ap (λ (l : List ℕ). add_all most_downstream l new) so.whole ∙ add-again most_downstream done new [] there) in
      record { room = so.room; fits = so.fits; whole = same ∙ more h }

  pub collect_end : {before : List ℕ} → length before ≡ most_downstream → length d ≤ 64 → length φs ≤ p → Grown before part m (downstream_once d i)
  unfolding downstream
  collect_end {before} r few h =
      let f = so.fits in
      record {
        same = so.room ∙ sym r;
        fits = omega arith;
        whole = so.whole ∙ ap (add_all most_downstream []) (downstream-whole d φs p h) ∙ downstream-made d few i;
      }
