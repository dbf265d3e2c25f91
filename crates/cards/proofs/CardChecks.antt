-- 3, 4 and 6 of a card's units: by how many phys come before the first of which 6 holds, and one expander more.
use Prim.Native.Nat.{ℕ, suc, ◌+◌, ◌≤◌, ◌<◌}
use mathlib.Core.Path.{◌≡◌, refl, sym, ◌∙◌, ap}
use mathlib.Core.Bool.{Bool, true, false, cond, ◌&&◌}
use mathlib.Core.List.{List, [], ◌∷◌, ◌++◌}
use native.Mathlib.Omega.{arith}
use native.Mathlib.Nat.{zero-add}
use lib.ListN.{length, take, drop, set}
use lib.Dec.{eqb, leb}
use Rattle.std.specs.Result.{result_and}
use borrow.Author.Tests.{eq-eqb, ne_eqb, eqb-true, le-leb, lt-leb}
use Rattle.frames.specs.Bits.{field}
use Rattle.frames.specs.Refusals.{Result, refused, good, unless, then, refusal}
use Rattle.files.specs.declared.Setting.{Setting}
use Rattle.files.specs.declared.ExpanderUnit.{ExpanderUnit}
use Rattle.files.specs.declared.Phy.{Phy}
use Rattle.files.specs.Domain.{Expander, Domain}
use Rattle.files.specs.File.{unit_tested}
use Rattle.files.proofs.OneMore.{set_next}
use Rattle.cards.specs.Card.{unit_on, expander_on, head_size}
use Rattle.cards.specs.CardRead.{phy_ranged, phys_tested, unit_fields, units_tested}
use Rattle.cards.specs.CardWalks.{ranged_count, after_check}
use Rattle.cards.proofs.CardDomain.{count-phys}

-- how many phys come before the first of which 6 holds, where r of the p before these do: one phy more, and the end
pub ranged-go : (φ : Phy) (φs : List Phy) (r p v s : ℕ) → r ≤ p → cond (eqb r p) (p + ranged_count (φ ∷ φs)) r ≡ v → s ≡ cond (eqb r p && phy_ranged φ) (r + 1) r
    → (s ≤ p + 1) × (cond (eqb s (p + 1)) (p + 1 + ranged_count φs) s ≡ v)
unfolding ranged_count
ranged-go φ φs r p v s h inv e = go (eqb r p) (phy_ranged φ) refl inv e
  where
    go : (b t : Bool) → eqb r p ≡ b → cond b (p + cond t (suc (ranged_count φs)) 0) r ≡ v → s ≡ cond (b && t) (r + 1) r
        → (s ≤ p + 1) × (cond (eqb s (p + 1)) (p + 1 + ranged_count φs) s ≡ v)
    go true true q i f =
        let z : r ≡ p = eqb-true r p q in
        let y : s ≡ p + 1 = omega arith in
        (omega arith, rw (eq-eqb s (p + 1) y) (omega arith))
    go true false q i f =
        let z : r ≡ p = eqb-true r p q in
        (omega arith, rw (ne_eqb s (p + 1) (λ (y : s ≡ p + 1). omega arith)) (omega arith))
    go false t q i f = (omega arith, rw (ne_eqb s (p + 1) (λ (y : s ≡ p + 1). omega arith)) (f ∙ i))

pub ranged-end : (r p v : ℕ) → cond (eqb r p) (p + ranged_count []) r ≡ v → r ≡ v
unfolding ranged_count
ranged-end r p v inv = go (eqb r p) refl inv
  where
    go : (b : Bool) → eqb r p ≡ b → cond b (p + 0) r ≡ v → r ≡ v
    go true q i = let z : r ≡ p = eqb-true r p q in omega arith
    go false q i = i

-- 6 in phys, by that count
phys-by : (i p : ℕ) (φs : List Phy) (k : Result Domain) (m c : ℕ) → m ≡ p + length φs → c ≡ p + ranged_count φs → phys_tested i p φs k ≡ unless (leb m c) (refusal 6 i c) k
unfolding phys_tested ranged_count
phys-by i p [] k m c e f = rw (le-leb m c (omega arith))
phys-by i p (φ ∷ φs) k m c e f = go (phy_ranged φ) (phys-by i (p + 1) φs k m c) f
  where
    go : (t : Bool) → (m ≡ p + 1 + length φs → c ≡ p + 1 + ranged_count φs → phys_tested i (p + 1) φs k ≡ unless (leb m c) (refusal 6 i c) k)
        → c ≡ p + cond t (suc (ranged_count φs)) 0 → unless t (refusal 6 i p) (phys_tested i (p + 1) φs k) ≡ unless (leb m c) (refusal 6 i c) k
    go true h g = h (omega arith) (omega arith)
    go false h g = let z : p ≡ c = omega arith in rw (lt-leb m c (omega arith)) (ap (λ (x : ℕ). refused (refusal 6 i x)) z)

-- two answers joined by `and`: the first, then the second
pub both-checked : (a b both : Result Unit) → both ≡ result_and a b → (k : Result Domain) → after_check both k ≡ after_check a (after_check b k)
both-checked (refused r) b both e k = ap (λ (x : Result Unit). after_check x k) e
both-checked (good tt) b both e k = ap (λ (x : Result Unit). after_check x k) e

module _ (most : Setting) (l used : List ℕ) (i at : ℕ) where
  fields-on : unit_fields (expander_on (drop at l)) ≡ unit_on (drop at l)
  unfolding expander_on
  fields-on =
      ap (λ (c : ℕ). record { address = field 64 (drop at l); route_indexes = field 16 (drop 64 (drop at l)); phys = c; configurable = field 1 (drop 80 (drop at l)) })
      (count-phys (suc (field 7 (drop 81 (drop at l)))) (drop head_size (drop at l)))

  unit-is : (e : Expander) (u : ExpanderUnit) (r : ℕ) → u ≡ unit_fields e → r ≡ ranged_count e.phys → (k : Result Domain)
      → then (unit_tested most (take i used) i u) (λ w. unless (leb u.phys r) (refusal 6 i r) k) ≡ then (unit_tested most (take i used) i (unit_fields e)) (λ w. phys_tested i 0 e.phys k)
  unit-is e u r qu qr k =
      let b = phys-by i 0 e.phys k (length e.phys) r (sym (zero-add (length e.phys))) (qr ∙ sym (zero-add (ranged_count e.phys))) in
      ap (λ (v : ExpanderUnit). then (unit_tested most (take i used) i v) (λ w. unless (leb v.phys r) (refusal 6 i r) k)) qu
      ∙ ap (λ (x : Result Domain). then (unit_tested most (take i used) i (unit_fields e)) (λ w. x)) (sym b)

  -- one expander more: what the tests so far and this one's say, with those of the expanders to come behind
  pub tests-go : (d : Domain) (check unit both : Result Unit) (u : ExpanderUnit) (r : ℕ) (v : Result Domain → Result Domain) → u ≡ unit_on (drop at l) → r ≡ ranged_count (expander_on (drop at l)).phys
      → ((k : Result Domain) → after_check unit k ≡ then (unit_tested most (take i used) i u) (λ w. unless (leb u.phys r) (refusal 6 i r) k))
      → ((k : Result Domain) → after_check both k ≡ after_check check (after_check unit k)) → i < length used
      → ((k : Result Domain) → after_check check (units_tested most i (take i used) (expander_on (drop at l) ∷ d) k) ≡ v k)
      → (k : Result Domain) → after_check both (units_tested most (i + 1) (take (i + 1) (set used i u.address)) d k) ≡ v k
  unfolding units_tested
  tests-go d check unit both u r v qu qr f g h inv k =
      let o : u ≡ unit_fields (expander_on (drop at l)) = qu ∙ sym fields-on in
      let t = set_next used i u.address h in
      let s : take (i + 1) (set used i u.address) ≡ take i used ++ ((expander_on (drop at l)).address ∷ []) = t ∙ ap (λ (w : ExpanderUnit). take i used ++ (w.address ∷ [])) o in
      ap (λ (x : List ℕ). after_check both (units_tested most (i + 1) x d k)) s
      ∙ g (units_tested most (i + 1) (take i used ++ ((expander_on (drop at l)).address ∷ [])) d k)
      ∙ ap (after_check check) (f (units_tested most (i + 1) (take i used ++ ((expander_on (drop at l)).address ∷ [])) d k)
      ∙ unit-is (expander_on (drop at l)) u r o qr (units_tested most (i + 1) (take i used ++ ((expander_on (drop at l)).address ∷ [])) d k)) ∙ inv k
