-- Cause 9 at a phy, where it holds at no lower one: the lowest phy with its address tells its attribute, and the nearest lower subtractive phy
-- where the others lead.
use Prim.Native.Nat.{ℕ, ◌≤◌, ◌<◌}
use mathlib.Core.Path.{◌≡◌, sym, ◌∙◌, ap, subst}
use mathlib.Core.Logic.{◌≢◌, by_cases}
use mathlib.Core.Bool.{Bool, true, false, not, ◌&&◌}
use mathlib.Core.List.{List}
use native.Mathlib.Decide.{ℕ_discrete, dec_lt}
use native.Mathlib.Omega.{arith}
use lib.ListN.{take}
use lib.Dec.{T, eqb, eqb→eq, not_T, T_not}
use borrow.Author.Tests.{eq-eqb, ne_eqb}
use Rattle.files.specs.declared.Phy.{Phy}
use Rattle.files.specs.declared.Phy.TheVariants.{Vacant}
use Rattle.files.specs.Lists.{any}
use Rattle.files.specs.Domain.{Domain, expander_at, phy_at, type_of, address_of, attribute_of, attached, is_subtractive}
use Rattle.files.specs.Rows.{phy_in_row, domain_in}
use Rattle.wiring.specs.phys.PhyCauses.{clash, clashing}
use Rattle.wiring.specs.phys.Checks.{cause_of, Testable}
use Rattle.wiring.specs.phys.Clashes.{subtractive, leads_elsewhere}
use Rattle.wiring.specs.index.AddressIndex.{LowestPhy, IndexedLow, lowest_phy}
use Rattle.files.proofs.ListMembers.{tests, and_right, and_both, eq→eqb, any_of, of-any, in_take, take_in, is_true, is_false, was_false, same_test, not_not}
use Rattle.files.proofs.RowsAsDomain.{phy-held}
use Rattle.files.proofs.Domains.{type-attached, type-none}
use Rattle.wiring.proofs.index.SlotDevices.{short_in}
use Rattle.wiring.proofs.index.IndexEntries.{low_told}
use Rattle.wiring.proofs.WiredAndLinked.{clash-attribute, clash-address, clash-why, lower-clash}

module _ (d : Domain) (i p : ℕ) (can : Testable 9 d i p) where
  abbrev phys : List Phy
  phys = (expander_at d i).phys

  abbrev φ : Phy
  φ = phy_at d i p

  free : (q : ℕ) → q < p → ¬ (T (clashing d i q))
  unfolding cause_of
  free q h = was_false (clashing d i q) (can.none q h)

  -- lower phys of one address have one attribute, and subtractive ones have one address
  one-attribute : (q r : ℕ) → q ≤ r → r < p → T (attached (phy_at d i q)) → T (attached (phy_at d i r)) → address_of (phy_at d i r) ≡ address_of (phy_at d i q)
      → attribute_of (phy_at d i r) ≡ attribute_of (phy_at d i q)
  one-attribute q r h l a b e = by_cases (ℕ_discrete (attribute_of (phy_at d i r)) (attribute_of (phy_at d i q))) (λ z. z)
      (λ z. absurd (free r l (lower-clash d i r q
      (by_cases (ℕ_discrete q r) (λ o. absurd (z (ap (λ (v : ℕ). attribute_of (phy_at d i v)) (sym o)))) (λ o. omega arith))
      (clash-attribute (phy_at d i r) (phy_at d i q) b a e z))))

  one_address : (q r : ℕ) → q < r → r < p → T (subtractive (phy_at d i q)) → T (subtractive (phy_at d i r)) → address_of (phy_at d i r) ≡ address_of (phy_at d i q)
  one_address q r h l x y = by_cases (ℕ_discrete (address_of (phy_at d i r)) (address_of (phy_at d i q))) (λ z. z)
      (λ z. absurd (free r l (lower-clash d i r q h
      (clash-address (phy_at d i r) (phy_at d i q) (search tests) (search tests) (search tests) (search tests) z))))

  -- a lower phy that passes a test
  lower : (f : Phy → Bool) → T (any f (take p phys)) → (q : ℕ) × (q < p) × T (f (phy_at d i q))
  lower f t =
      let o = of-any f (take p phys) t in
      let k = take_in p phys (Vacant 0) o.0 o.1 in
      (k.0, k.1, subst (λ φ. T (f φ)) (sym k.3) o.2)

  lower-any : (f : Phy → Bool) (q : ℕ) → q < p → T (f (phy_at d i q)) → T (any f (take p phys))
  lower-any f q h t = let w = can.within in any_of f (take p phys) (phy_at d i q) (in_take phys (Vacant 0) q p h (omega arith)) t

  -- the search for a subtractive phy with another address than s, from the highest phy below p down
  module _ (s : ℕ) where
    pub way-found : (q : ℕ) → q < p → T (subtractive (phy_at d i q)) → ((r : ℕ) → q < r → r < p → subtractive (phy_at d i r) ≡ false)
        → not (eqb (address_of (phy_at d i q)) s) ≡ any (leads_elsewhere s) (take p phys)
    way-found q h x none = same_test (not (eqb (address_of (phy_at d i q)) s)) (any (leads_elsewhere s) (take p phys))
        (λ t. lower-any (leads_elsewhere s) q h (search tests))
        (λ t. let o = lower (leads_elsewhere s) t in
        let y : T (subtractive (phy_at d i o.0)) = search (tests, o.2) in
        let z : T (not (eqb (address_of (phy_at d i o.0)) s)) = search (tests, o.2) in
        let e : address_of (phy_at d i q) ≡ address_of (phy_at d i o.0) = by_cases (ℕ_discrete q o.0) (λ m. ap (λ (v : ℕ). address_of (phy_at d i v)) m)
        (λ m. by_cases (dec_lt q o.0) (λ l. absurd (was_false _ (none o.0 l o.1) y)) (λ l. one_address o.0 q (omega arith) h y x)) in
        rw e z)

    pub way-none : ((r : ℕ) → r < p → subtractive (phy_at d i r) ≡ false) → false ≡ any (leads_elsewhere s) (take p phys)
    way-none none = sym (is_false (any (leads_elsewhere s) (take p phys))
        (λ t. let o = lower (leads_elsewhere s) t in was_false _ (none o.0 o.1) (search (tests, o.2))))

  clash_not : ¬ (T (attached φ)) → false ≡ clashing d i p
  unfolding clashing clash
  clash_not n = sym (is_false (clashing d i p) (λ t. let o = lower (clash (phy_at d i p)) t in n (search (tests, o.2))))

  module _ (here : T (attached φ)) (q : ℕ) (least : LowestPhy d i p q) where
    low-attached : T (attached (phy_at d i q))
    low-attached = let b = least.bearing in search tests

    low-address : address_of φ ≡ address_of (phy_at d i q)
    low-address = sym (eqb→eq _ _ (and_right (attached (phy_at d i q)) _ least.bearing))

    clash-low : attribute_of (phy_at d i q) ≢ attribute_of φ → true ≡ clashing d i p
    clash-low n =
        let l = least.low in
        sym (is_true (clashing d i p) (lower-clash d i p q
        (by_cases (ℕ_discrete q p) (λ o. absurd (n (ap (λ (v : ℕ). attribute_of (phy_at d i v)) o))) (λ o. omega arith))
        (clash-attribute φ (phy_at d i q) here low-attached low-address (λ z. n (sym z)))))

    clash-way : attribute_of (phy_at d i q) ≡ attribute_of φ → (is_subtractive φ && any (leads_elsewhere (address_of φ)) (take p phys)) ≡ clashing d i p
    unfolding clashing
    clash-way a = same_test (is_subtractive φ && any (leads_elsewhere (address_of φ)) (take p phys)) (clashing d i p)
        (λ t. let o = lower (leads_elsewhere (address_of φ)) (and_right (is_subtractive φ) _ t) in
        let u = o.2 in
        lower-clash d i p o.0 o.1 (clash-address φ (phy_at d i o.0) here (search tests) (search tests) (search tests)
        (λ z. T_not (eqb (address_of (phy_at d i o.0)) (address_of φ)) (search tests) (eq→eqb _ _ (sym z)))))
        (λ t. let o = lower (clash φ) t in
        let r = o.0 in
        not_not (is_subtractive φ && any (leads_elsewhere (address_of φ)) (take p phys)) (λ n. clash-why φ (phy_at d i r)
        (λ _ b z. sym a ∙ sym (one-attribute q r
        (by_cases (dec_lt r q) (λ l. absurd (was_false _ (least.none r l) (and_both (attached (phy_at d i r)) _ b (eq→eqb _ _ (sym z))))) (λ l. omega arith))
        o.1 low-attached b (sym z ∙ low-address)))
        (λ _ b x y. by_cases (ℕ_discrete (address_of φ) (address_of (phy_at d i r))) (λ z. z)
        (λ z. let w : T (not (eqb (address_of (phy_at d i r)) (address_of φ))) = not_T (eqb (address_of (phy_at d i r)) (address_of φ)) (λ k. z (sym (eqb→eq _ _ k))) in
        absurd (T_not (is_subtractive φ && any (leads_elsewhere (address_of φ)) (take p phys)) n
        (and_both (is_subtractive φ) _ x (lower-any (leads_elsewhere (address_of φ)) r o.1 (search tests))))))
        o.2))

-- what the code sees: f is phy p, and t its type; g is phy q, the lowest with its address
module _ (ws : List ℕ) (i p : ℕ) (can : Testable 9 (domain_in ws) i p) (f : Phy) (ef : f ≡ phy_in_row ws i p) (t : ℕ) (et : t ≡ type_of f) where
  phy-is : f ≡ phy_at (domain_in ws) i p
  phy-is = ef ∙ phy-held ws i p can.within

  type-is : t ≡ type_of (phy_at (domain_in ws) i p)
  type-is = et ∙ ap type_of phy-is

  pub none-clash : t ≡ 0 → false ≡ clashing (domain_in ws) i p
  none-clash z = clash_not (domain_in ws) i p can (type-none (phy_at (domain_in ws) i p) (sym type-is ∙ z))

  module _ (n : t ≢ 0) (low : List ℕ) (index : IndexedLow (domain_in ws) low) (q : ℕ) (eq : q ≡ lowest_phy low i p) (g : Phy)
      (eg : g ≡ phy_in_row ws i q) (a b : ℕ) (ea : a ≡ attribute_of f) (eb : b ≡ attribute_of g) where
    here : T (attached (phy_at (domain_in ws) i p))
    here = type-attached (phy_at (domain_in ws) i p) (λ z. n (type-is ∙ z))

    least : LowestPhy (domain_in ws) i p q
    least = rw eq (low_told (domain_in ws) i p (omega (arith, can.within, short_in ws i)) low index here)

    attribute-is : a ≡ attribute_of (phy_at (domain_in ws) i p)
    attribute-is = ea ∙ ap attribute_of phy-is

    lowest-is : b ≡ attribute_of (phy_at (domain_in ws) i q)
    lowest-is = eb ∙ ap attribute_of (eg ∙ phy-held ws i q (omega (arith, can.within, least.low)))

    pub other-clash : b ≢ a → true ≡ clashing (domain_in ws) i p
    other-clash m = clash-low (domain_in ws) i p can here q least (λ z. m (lowest-is ∙ z ∙ sym attribute-is))

    module _ (same : b ≡ a) where
      by_way : (is_subtractive (phy_at (domain_in ws) i p) && any (leads_elsewhere (address_of (phy_at (domain_in ws) i p))) (take p (expander_at (domain_in ws) i).phys))
          ≡ clashing (domain_in ws) i p
      by_way = clash-way (domain_in ws) i p can here q least (sym lowest-is ∙ same ∙ attribute-is)

      pub way_no : a ≢ 1 → false ≡ clashing (domain_in ws) i p
      way_no m = rw (ne_eqb (attribute_of (phy_at (domain_in ws) i p)) 1 (λ z. m (attribute-is ∙ z))) at by_way

      pub way-clash : a ≡ 1 → (r : Bool) (s : ℕ) → r ≡ any (leads_elsewhere s) (take p (expander_at (domain_in ws) i).phys) → s ≡ address_of f → r ≡ clashing (domain_in ws) i p
      way-clash m r s er es =
          er ∙ ap (λ (x : ℕ). any (leads_elsewhere x) (take p (expander_at (domain_in ws) i).phys)) (es ∙ ap address_of phy-is)
          ∙ (rw (eq-eqb (attribute_of (phy_at (domain_in ws) i p)) 1 (sym attribute-is ∙ m)) at by_way)
