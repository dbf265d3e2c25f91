-- What a domain past causes 1 to 10 has: where each phy leads, and how neighbours go with it.
use mathlib.Core.Path.{◌≡◌, refl, sym, ap, subst, ◌∙◌}
use mathlib.Core.Logic.{◌⊎◌, inl, inr, ◌≢◌, ⊎_elim, by_cases}
use mathlib.Core.List.{List, [], ◌∷◌, ◌++◌}
use mathlib.Core.Bool.{◌&&◌}
use Prim.Native.Nat.{ℕ, zero, suc, ◌+◌, ◌≤◌, ◌<◌}
use native.Mathlib.Decide.{ℕ_discrete}
use native.Mathlib.Omega.{arith}
use lib.ListN.{length, set}
use lib.Dec.{T, eqb}
use Rattle.files.specs.declared.Phy.{Phy}
use Rattle.files.specs.declared.Phy.TheVariants.{Vacant, Present}
use Rattle.files.specs.Lists.{In}
use Rattle.files.specs.Domain.{Expander, Domain, expander_at, phy_at, address_of, attached_phy_of, attribute_of, is_table, is_subtractive, attached, to_end, to_expander, number_of}
use Rattle.wiring.specs.phys.PhyCauses.{far_phy, place, phy_places, places_from, places}
use Rattle.wiring.specs.graph.Graph.{Tail, Symmetric}
pub use Rattle.wiring.specs.graph.Devices.{LoopIn, ChainIn, Home, AttachedTo}
use Rattle.wiring.specs.graph.Neighbours.{cabled, neighbours}
use Rattle.files.proofs.ListMembers.{tests, or_cases, or_left, or_right, any_of, of-any, in_get_d, get_d_in, in_left, in_right, all_cons}
use Rattle.files.proofs.Domains.{expander-attached, attribute-one, number_of-is, in_range_lem}

-- a way is a chain without its first
abbrev pub ChainTail : Domain → ℕ → ℕ → List ℕ → Type 0
ChainTail d = Tail (length d) (neighbours d)

-- cause 6 leaves types up to 3 and attributes up to 2
abbrev pub Plain : Phy → Type 0
Plain (Vacant r) = Unit {0}
Plain (Present f) = (f.device_type ≤ 3) × (f.attribute ≤ 2)

-- past causes 1 to 10
pub record Wired (d : Domain) : Type 0 where
  -- addresses of expanders differ, and none is 0
  pub number : (j : ℕ) → j < length d → number_of d (expander_at d j).address ≡ j
  pub borne : (j : ℕ) → j < length d → (expander_at d j).address ≢ 0
  -- 255 is no phy
  pub few : (i p : ℕ) → T (attached (phy_at d i p)) → p < 255
  pub plain : (i p : ℕ) → Plain (phy_at d i p)
  pub attached_borne : (i p : ℕ) → T (attached (phy_at d i p)) → address_of (phy_at d i p) ≢ 0
  -- 7: subtractive or table; the far end leads back here, and its far end is this phy
  pub routing : (i p : ℕ) → T (to_expander (phy_at d i p)) → T (is_subtractive (phy_at d i p)) ⊎ T (is_table (phy_at d i p))
  pub answer : (i p : ℕ) → T (to_expander (phy_at d i p)) → AttachedTo d (number_of d (address_of (phy_at d i p))) (attached_phy_of (phy_at d i p)) i
  pub back : (i p : ℕ) → T (to_expander (phy_at d i p)) → attached_phy_of (far_phy d (phy_at d i p)) ≡ p
  -- 8: an end device is no expander, and is at one expander
  pub apart : (i p j : ℕ) → T (to_end (phy_at d i p)) → j < length d → address_of (phy_at d i p) ≢ (expander_at d j).address
  pub one_place : (i p j q : ℕ) → T (to_end (phy_at d i p)) → T (to_end (phy_at d j q)) → address_of (phy_at d i p) ≡ address_of (phy_at d j q) → i ≡ j
  -- 9: one attribute for each address at an expander, and one subtractive address
  pub kind : (i p q : ℕ) → T (attached (phy_at d i p)) → T (attached (phy_at d i q)) → address_of (phy_at d i p) ≡ address_of (phy_at d i q)
      → attribute_of (phy_at d i p) ≡ attribute_of (phy_at d i q)
  pub one_way : (i p q : ℕ) → T (attached (phy_at d i p)) → T (attached (phy_at d i q)) → T (is_subtractive (phy_at d i p)) → T (is_subtractive (phy_at d i q))
      → address_of (phy_at d i p) ≡ address_of (phy_at d i q)
  -- 10
  pub configured : (i p : ℕ) → T (is_table (phy_at d i p)) → (expander_at d i).configurable ≢ 0

-- one step is a way
pub one-step : (d : Domain) (i j : ℕ) → i < length d → j < length d → i ≢ j → T (neighbours d i j) → ChainTail d i j (j ∷ [])
one-step d i j h k n t = record {
  diff = (⊎_elim n (λ o. o), (λ o. o, tt));
  below = all_cons (λ v. v < length d) i (j ∷ []) h (all_cons (λ v. v < length d) j [] k (λ v o. absurd o));
  steps = (t, tt);
  ends = refl;
}

-- the attribute of an attached phy, past cause 6
pub plain-attribute : (φ : Phy) → Plain φ → T (attached φ) → attribute_of φ ≤ 2
plain-attribute (Vacant r) h t = absurd t
plain-attribute (Present f) h t = h.1

-- every phy is among the places
in_phy_places : (i p count q : ℕ) → p ≤ q → q < p + count → In (place i q) (phy_places i p count)
unfolding phy_places
in_phy_places i p zero q h k = absurd (omega arith)
in_phy_places i p (suc count) q h k =
    by_cases (ℕ_discrete q p) (λ e. inl (ap (place i) e)) (λ n. inr (in_phy_places i (p + 1) count q (omega arith) (omega arith)))

in_places_from : (d : Domain) (k i p : ℕ) → p < length (expander_at d i).phys → In (place (k + i) p) (places_from k d)
unfolding places_from
in_places_from [] k i p h = absurd (omega arith)
in_places_from (e ∷ d) k zero p h =
    in_left (phy_places k 0 (length e.phys)) (places_from (k + 1) d) (place (k + 0) p)
    (subst (λ v. In (place v p) (phy_places k 0 (length e.phys))) (omega arith) (in_phy_places k 0 (length e.phys) p (omega arith) (omega arith)))
in_places_from (e ∷ d) k (suc i) p h =
    in_right (phy_places k 0 (length e.phys)) (places_from (k + 1) d) (place (k + suc i) p)
    (subst (λ v. In (place v p) (places_from (k + 1) d)) (omega arith) (in_places_from d (k + 1) i p h))

pub in_places : (d : Domain) (i p : ℕ) → p < length (expander_at d i).phys → In (place i p) (places d)
in_places d i p h = subst (λ v. In (place v p) (places d)) (omega arith) (in_places_from d 0 i p h)

-- places stay where an expander is replaced by one of as many phys
pub places-set : (d : Domain) (k i : ℕ) (e : Expander) → length e.phys ≡ length (expander_at d i).phys → places_from k (set d i e) ≡ places_from k d
unfolding places_from
places-set [] k i e h = refl
places-set (x ∷ d) k zero e h = ap (λ v. phy_places k 0 v ++ places_from (k + 1) d) h
places-set (x ∷ d) k (suc i) e h = ap (λ v. phy_places k 0 (length x.phys) ++ v) (places-set d (k + 1) i e h)

module _ (d : Domain) (w : Wired d) where
  pub differ : (i j : ℕ) → i < length d → j < length d → (expander_at d i).address ≡ (expander_at d j).address → i ≡ j
  differ i j h k e = sym (w.number i h) ∙ ap (number_of d) e ∙ w.number j k

  pub to_start : (i p j : ℕ) → AttachedTo d i p j → i < length d
  to_start i p j t = (in_range_lem d i p (expander-attached (phy_at d i p) t.expander)).0

  -- the far end of a phy that is attached to an expander
  pub far-below : (i p : ℕ) → T (to_expander (phy_at d i p)) → number_of d (address_of (phy_at d i p)) < length d
  far-below i p t = to_start (number_of d (address_of (phy_at d i p))) (attached_phy_of (phy_at d i p)) i (w.answer i p t)

  pub far-is : (i p : ℕ) → T (to_expander (phy_at d i p)) → AttachedTo d i p (number_of d (address_of (phy_at d i p)))
  far-is i p t = record { expander = t; address = sym (number_of-is d (address_of (phy_at d i p)) (far-below i p t)) }

  pub to_number : (i p j : ℕ) → j < length d → AttachedTo d i p j → number_of d (address_of (phy_at d i p)) ≡ j
  to_number i p j h t = ap (number_of d) t.address ∙ w.number j h

  pub to_back : (i p j : ℕ) → j < length d → AttachedTo d i p j → AttachedTo d j (attached_phy_of (phy_at d i p)) i
  to_back i p j h t = subst (λ v. AttachedTo d v (attached_phy_of (phy_at d i p)) i) (to_number i p j h t) (w.answer i p t.expander)

  -- the far end of the far end
  pub far-far : (i p : ℕ) → T (to_expander (phy_at d i p)) → far_phy d (far_phy d (phy_at d i p)) ≡ phy_at d i p
  far-far i p t =
      let k = number_of d (address_of (phy_at d i p)) in
      let n = to_number k (attached_phy_of (phy_at d i p)) i (to_start i p k (far-is i p t)) (w.answer i p t) in
      rw (n, w.back i p t) refl

  -- table and subtractive at one address
  pub alike : (i p q : ℕ) → T (attached (phy_at d i p)) → T (attached (phy_at d i q)) → address_of (phy_at d i p) ≡ address_of (phy_at d i q)
      → T (is_subtractive (phy_at d i p)) → T (is_table (phy_at d i q)) → ⊥
  alike i p q t u e x y = let z : ◌≡◌ {A = ℕ} 1 2 = attribute-one 1 2 (phy_at d i q) (subst (λ v. T (eqb v 1)) (w.kind i p q t u e) x) y in omega arith

  to-cabled : (i p j : ℕ) → AttachedTo d i p j → T (cabled d i j)
  unfolding cabled
  to-cabled i p j t =
      any_of (λ φ. to_expander φ && eqb (address_of φ) (expander_at d j).address) (expander_at d i).phys (phy_at d i p)
      (in_get_d (expander_at d i).phys (Vacant 0) p (in_range_lem d i p (expander-attached (phy_at d i p) t.expander)).1)
      (search tests)

  cabled-to : (i j : ℕ) → T (cabled d i j) → (p : ℕ) × AttachedTo d i p j
  unfolding cabled
  cabled-to i j t =
      let r = of-any (λ φ. to_expander φ && eqb (address_of φ) (expander_at d j).address) (expander_at d i).phys t in
      let g = get_d_in (expander_at d i).phys (Vacant 0) r.0 r.1 in
      let u = subst (λ φ. T (to_expander φ && eqb (address_of φ) (expander_at d j).address)) (sym g.2) r.2 in
      (g.0, record { expander = search tests; address = search tests })

  -- neighbours are those to which a phy leads
  pub adj-to : (i j : ℕ) → i < length d → T (neighbours d i j) → (p : ℕ) × AttachedTo d i p j
  unfolding neighbours
  adj-to i j h t =
      ⊎_elim (cabled-to i j) (λ u. let r = cabled-to j i u in (attached_phy_of (phy_at d j r.0), to_back j r.0 i h r.1))
      (or_cases (cabled d i j) (cabled d j i) t)

  pub to-adj : (i p j : ℕ) → AttachedTo d i p j → T (neighbours d i j)
  unfolding neighbours
  to-adj i p j t = or_left (cabled d i j) (cabled d j i) (to-cabled i p j t)

pub adj_symmetric : (d : Domain) → Symmetric (neighbours d)
unfolding neighbours
adj_symmetric d i j t =
    ⊎_elim (or_right (cabled d j i) (cabled d i j)) (or_left (cabled d j i) (cabled d i j)) (or_cases (cabled d i j) (cabled d j i) t)
