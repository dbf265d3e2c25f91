-- What the causes leave of a domain that is read: 7 to 10 of one that is wired, 11, 12 and 23 of one that is linked.
use mathlib.Core.Path.{◌≡◌, refl, sym, ap, subst, ◌∙◌}
use mathlib.Core.Logic.{◌⊎◌, inl, inr, ◌≢◌, ◌↔◌, ⊎_elim, by_cases}
use mathlib.Core.List.{List, [], ◌∷◌}
use mathlib.Core.Bool.{Bool, cond, not, ◌||◌, ◌&&◌}
use Prim.Native.Nat.{ℕ, zero, suc, ◌<◌}
use native.Mathlib.Omega.{arith}
use native.Mathlib.Decide.{ℕ_discrete, dec_lt}
use lib.ListN.{length, get_or, take, get_or-eq_default}
use lib.Dec.{T, eqb, ltb, eqb→eq, ltb→lt, lt→ltb, not_T, T_not}
use Rattle.frames.specs.Refusals.{good, refusal}
use Rattle.files.specs.declared.Setting.{Setting}
use Rattle.files.specs.declared.Phy.{Phy}
use Rattle.files.specs.declared.Phy.TheVariants.{Vacant, Present}
use Rattle.files.specs.Lists.{up_to, any, In, Distinct}
use Rattle.files.specs.Domain.{Expander, Domain, no_expander, expander_at, phy_at, address_of, attached_phy_of, attribute_of, is_table, is_subtractive, is_direct, attached, to_end, to_expander, number_of}
use Rattle.files.specs.ReadDomain.{ReadPhy, ReadExpander, addresses, Read}
use Rattle.files.specs.File.{domain_read}
use Rattle.wiring.specs.phys.PhyCauses.{Place, place, places, far_phy, names, unanswered, end_at, claimed, clash, clashing, fixed, first_in, first_of, wired_domain, wired}
use Rattle.wiring.specs.WiringCauses.{Passed, Linked}
use Rattle.wiring.specs.graph.Graph.{loopfree}
use Rattle.wiring.specs.graph.Neighbours.{neighbours}
use Rattle.wiring.specs.graph.LongChains.{chains_within, unlong, ShortChains}
use Rattle.wiring.specs.graph.LinkCauses.{unlooped, joined, joined_in, linked_domain}
use Rattle.files.proofs.CallResults.{never, good-one, unless-good, good-unless, then-good, good-then, then_same}
use Rattle.files.proofs.ReadDomain.{read-good}
use Rattle.files.proofs.ListMembers.{tests, by-test, or_cases, not_not, is_true, is_false, was_true, was_false, eq→eqb, in_cast, all_cons, any_of, of-any, in_get_d, get_d_in, in_take, take_in, map_in, in_up_to, numbers-below}
use Rattle.wiring.proofs.graph.Loops.{loopfree_iff}
use Rattle.wiring.proofs.graph.ReachedByChain.{reached_iff}
use Rattle.wiring.proofs.graph.LongChains.{within_iff}
use Rattle.wiring.proofs.phys.WiredPhys.{LoopIn, ChainIn, AttachedTo, Plain, Wired, plain-attribute, in_places, adj_symmetric}
use Rattle.files.proofs.Domains.{end-attached, expander-attached, attribute-one, number_of-is, expander-range, phy-range, in_range_lem, attribute-range}

-- what causes 1 to 6 leave, expander by expander and phy by phy
numbers-differ : (d : Domain) → Distinct (addresses d) → (j : ℕ) → j < length d → number_of d (expander_at d j).address ≡ j
unfolding number_of
numbers-differ [] g j h = absurd (omega arith)
numbers-differ (e ∷ d) g zero h = rw (is_true (eqb e.address e.address) (eq→eqb e.address e.address refl)) refl
numbers-differ (e ∷ d) g (suc j) h =
    let a = (expander_at d j).address in
    let here : In a (addresses d) = map_in (λ e. e.address) d (expander_at d j) (in_get_d d no_expander j (omega arith)) in
    let n : ¬ (T (eqb e.address a)) = λ t. g.0 (in_cast (addresses d) (eqb→eq e.address a t) here) in
    rw (is_false (eqb e.address a) n) (ap suc (numbers-differ d g.1 j (omega arith)))

read_plain : (φ : Phy) → ReadPhy φ → Plain φ
read_plain (Vacant r) h = tt
read_plain (Present f) h = (h.device_type, h.attribute)

read-borne : (φ : Phy) → ReadPhy φ → T (attached φ) → address_of φ ≢ 0
read-borne (Vacant r) h t = absurd t
read-borne (Present f) h t = h.borne (λ e. T_not (eqb f.device_type 0) t (eq→eqb f.device_type 0 e))

module _ (most : Setting) (d : Domain) (g : Read most d) where
  pub read-expander : (i : ℕ) → i < length d → ReadExpander most (expander_at d i)
  read-expander i h = g.each (expander_at d i) (in_get_d d no_expander i h)

  pub read-phy : (i p : ℕ) → p < length (expander_at d i).phys → ReadPhy (phy_at d i p)
  read-phy i p h = (read-expander i (expander-range d i p h)).phys (phy_at d i p) (in_get_d (expander_at d i).phys (Vacant 0) p h)

  -- past the end there is a vacant phy
  all_plain : (i p : ℕ) → Plain (phy_at d i p)
  all_plain i p = by_cases (dec_lt p (length (expander_at d i).phys)) (λ h. read_plain (phy_at d i p) (read-phy i p h))
      (λ h. subst Plain (sym (get_or-eq_default (expander_at d i).phys (Vacant 0) (omega arith))) tt)

-- a search over places that finds none
pub first_in-good : (k : ℕ) (test : ℕ → ℕ → Bool) (qs : List Place) (d e : Domain) → first_in k test qs d ≡ good e
    → (d ≡ e) × ((i p : ℕ) → In (place i p) qs → ¬ (T (test i p)))
unfolding first_in
first_in-good k test [] d e f = (good-one d e f, λ i p h. absurd h)
first_in-good k test (q ∷ qs) d e f = by-test (test q.expander q.phy)
    (λ o. never (refusal k q.expander q.phy) e (rw o at f))
    (λ o. let s = first_in-good k test qs d e (rw o at f) in
    (s.0, λ i p. ⊎_elim (λ h t. was_false _ o (subst (λ v. T (test v.expander v.phy)) h t)) (s.1 i p)))

pub good-first_in : (k : ℕ) (test : ℕ → ℕ → Bool) (qs : List Place) (d : Domain) → ((i p : ℕ) → In (place i p) qs → ¬ (T (test i p)))
    → first_in k test qs d ≡ good d
unfolding first_in
good-first_in k test [] d f = refl
good-first_in k test (q ∷ qs) d f =
    rw (is_false (test q.expander q.phy) (f q.expander q.phy (inl refl))) (good-first_in k test qs d (λ i p h. f i p (inr h)))

-- a search over the whole domain, with a test that holds of no phy past the end
pub first_of-good : (k : ℕ) (test : ℕ → ℕ → Bool) (d e : Domain) → ((i p : ℕ) → T (test i p) → p < length (expander_at d i).phys)
    → first_of k test d ≡ good e → (d ≡ e) × ((i p : ℕ) → ¬ (T (test i p)))
first_of-good k test d e r f =
    let g = first_in-good k test (places d) d e f in
    (g.0, λ i p t. g.1 i p (in_places d i p (r i p t)) t)

pub good-first_of : (k : ℕ) (test : ℕ → ℕ → Bool) (d : Domain) → ((i p : ℕ) → ¬ (T (test i p))) → first_of k test d ≡ good d
good-first_of k test d f = good-first_in k test (places d) d (λ i p h. f i p)

-- causes 7 to 10 hold of no phy past the end
unanswered-range : (d : Domain) (i p : ℕ) → T (unanswered d i p) → p < length (expander_at d i).phys
unfolding unanswered
unanswered-range d i p t = phy-range d to_expander i p (search tests) (λ u. u)

claimed-range : (d : Domain) (i p : ℕ) → T (claimed d i p) → p < length (expander_at d i).phys
unfolding claimed
claimed-range d i p t = phy-range d to_end i p (search tests) (λ u. u)

clash-attached : (φ ψ : Phy) → T (clash φ ψ) → T (attached φ)
unfolding clash
clash-attached φ ψ t = search tests

clashing-range : (d : Domain) (i p : ℕ) → T (clashing d i p) → p < length (expander_at d i).phys
unfolding clashing
clashing-range d i p t =
    let r = of-any (clash (phy_at d i p)) (take p (expander_at d i).phys) t in
    (in_range_lem d i p (clash-attached (phy_at d i p) r.0 r.2)).1

fixed-range : (d : Domain) (i p : ℕ) → T (fixed d i p) → p < length (expander_at d i).phys
unfolding fixed
fixed-range d i p t = attribute-range d 2 i p (search tests) (omega arith)

wired-passed : (d e : Domain) → wired_domain d ≡ good e → (d ≡ e) × Passed d
unfolding wired_domain
wired-passed d e f =
    let a = then-good (first_of 7 (unanswered d) d) _ e f in
    let b = then-good (first_of 8 (claimed d) d) _ e a.2 in
    let c = then-good (first_of 9 (clashing d) d) _ e b.2 in
    let g = first_of-good 10 (fixed d) d e (fixed-range d) c.2 in (
      g.0,
      record {
        seven = (first_of-good 7 (unanswered d) d a.0 (unanswered-range d) a.1).1;
        eight = (first_of-good 8 (claimed d) d b.0 (claimed-range d) b.1).1;
        nine = (first_of-good 9 (clashing d) d c.0 (clashing-range d) c.1).1;
        ten = g.1;
      },
    )

passed-wired : (d : Domain) → Passed d → wired_domain d ≡ good d
unfolding wired_domain
passed-wired d s =
    good-then (first_of 7 (unanswered d) d) _ d d (good-first_of 7 (unanswered d) d s.seven)
    (good-then (first_of 8 (claimed d) d) _ d d (good-first_of 8 (claimed d) d s.eight)
    (good-then (first_of 9 (clashing d) d) _ d d (good-first_of 9 (clashing d) d s.nine) (good-first_of 10 (fixed d) d s.ten)))

pub passed_iff : (d : Domain) → (wired_domain d ≡ good d) ↔ Passed d
passed_iff d = (λ e. (wired-passed d d e).1, passed-wired d)

-- a good result is the domain itself
pub wired-same : (d e : Domain) → wired_domain d ≡ good e → d ≡ e
wired-same d e f = (wired-passed d e f).0

-- cause 9, two phys at a time
pub clash-attribute : (φ ψ : Phy) → T (attached φ) → T (attached ψ) → address_of φ ≡ address_of ψ → attribute_of φ ≢ attribute_of ψ → T (clash φ ψ)
unfolding clash
clash-attribute φ ψ t u e n =
    let other = not_T (eqb (attribute_of φ) (attribute_of ψ)) (λ o. n (eqb→eq (attribute_of φ) (attribute_of ψ) o)) in
    rw (is_true (eqb (address_of φ) (address_of ψ)) (eq→eqb (address_of φ) (address_of ψ) e)) (search tests)

pub clash-address : (φ ψ : Phy) → T (attached φ) → T (attached ψ) → T (is_subtractive φ) → T (is_subtractive ψ) → address_of φ ≢ address_of ψ → T (clash φ ψ)
unfolding clash
clash-address φ ψ t u x y n = rw (is_false (eqb (address_of φ) (address_of ψ)) (λ o. n (eqb→eq (address_of φ) (address_of ψ) o))) (search tests)

pub clash-why : (φ ψ : Phy) → (T (attached φ) → T (attached ψ) → address_of φ ≡ address_of ψ → attribute_of φ ≡ attribute_of ψ)
    → (T (attached φ) → T (attached ψ) → T (is_subtractive φ) → T (is_subtractive ψ) → address_of φ ≡ address_of ψ) → T (clash φ ψ) → ⊥
unfolding clash
clash-why φ ψ k o c =
    let t : T (attached φ) = search tests in
    let u : T (attached ψ) = search tests in
    let v : T (cond (eqb (address_of φ) (address_of ψ)) (not (eqb (attribute_of φ) (attribute_of ψ))) (is_subtractive φ && is_subtractive ψ)) = search tests in
    by-test (eqb (address_of φ) (address_of ψ)) (λ e. T_not (eqb (attribute_of φ) (attribute_of ψ)) (rw e at v) (search (tests, k t u)))
    (λ e. let x : T (is_subtractive φ && is_subtractive ψ) = rw e at v in was_false _ e (eq→eqb (address_of φ) (address_of ψ) (o t u (search tests) (search tests))))

-- a clash with a lower phy
pub lower-clash : (d : Domain) (i p q : ℕ) → q < p → T (clash (phy_at d i p) (phy_at d i q)) → T (clashing d i p)
unfolding clashing
lower-clash d i p q h c =
    let r = (in_range_lem d i p (clash-attached (phy_at d i p) (phy_at d i q) c)).1 in
    any_of (clash (phy_at d i p)) (take p (expander_at d i).phys) (phy_at d i q) (in_take (expander_at d i).phys (Vacant 0) q p h (omega arith)) c

-- past causes 1 to 6, none of 7 to 10 holds of a phy exactly when the domain is wired
module _ (most : Setting) (d : Domain) (g : Read most d) (s : Passed d) where
  no_direct : (i p : ℕ) → T (to_expander (phy_at d i p)) → ¬ (T (is_direct (phy_at d i p)))
  unfolding unanswered
  no_direct i p t u = s.seven i p (search tests)

  named : (i p : ℕ) → T (to_expander (phy_at d i p)) → T (names (expander_at d i).address p (far_phy d (phy_at d i p)))
  unfolding unanswered
  named i p t = not_not (names (expander_at d i).address p (far_phy d (phy_at d i p))) (λ u. s.seven i p (search tests))

  answered : (i p : ℕ) → T (to_expander (phy_at d i p)) → AttachedTo d (number_of d (address_of (phy_at d i p))) (attached_phy_of (phy_at d i p)) i
  answered i p t = let n = named i p t in record { expander = search tests; address = search tests }

  named_back : (i p : ℕ) → T (to_expander (phy_at d i p)) → attached_phy_of (far_phy d (phy_at d i p)) ≡ p
  named_back i p t = let n = named i p t in search tests

  routed : (i p : ℕ) → T (to_expander (phy_at d i p)) → T (is_subtractive (phy_at d i p)) ⊎ T (is_table (phy_at d i p))
  routed i p t =
      let a = attribute_of (phy_at d i p) in
      let h = plain-attribute (phy_at d i p) (all_plain most d g i p) (expander-attached (phy_at d i p) t) in
      by_cases (ℕ_discrete a 1) (λ e. inl (eq→eqb a 1 e))
      (λ k. by_cases (ℕ_discrete a 0) (λ e. absurd (no_direct i p t (eq→eqb a 0 e))) (λ l. inr (eq→eqb a 2 (omega arith))))

  own_address_lem : (i p j : ℕ) → T (to_end (phy_at d i p)) → j < length d → address_of (phy_at d i p) ≢ (expander_at d j).address
  unfolding claimed
  own_address_lem i p j t h e =
      let n = ap (number_of d) e ∙ numbers-differ d g.differ j h in
      let k = lt→ltb (number_of d (address_of (phy_at d i p))) (length d) (omega arith) in
      s.eight i p (search tests)

  not_earlier : (i p j q : ℕ) → T (to_end (phy_at d i p)) → T (to_end (phy_at d j q)) → address_of (phy_at d i p) ≡ address_of (phy_at d j q) → i < j → ⊥
  unfolding claimed end_at
  not_earlier i p j q t u e h =
      let a = address_of (phy_at d j q) in
      let r = in_range_lem d i p (end-attached (phy_at d i p) t) in
      let m = in_get_d (expander_at d i).phys (Vacant 0) p r.1 in
      let f = any_of (λ φ. to_end φ && eqb (address_of φ) a) (expander_at d i).phys (phy_at d i p) m (search tests) in
      let k = any_of (end_at a) (take j d) (expander_at d i) (in_take d no_expander i j h r.0) f in
      s.eight j q (search tests)

  no_clash : (i p q : ℕ) → q < p → T (clash (phy_at d i p) (phy_at d i q)) → ⊥
  no_clash i p q h c = s.nine i p (lower-clash d i p q h c)

  -- two phys of one expander, of which either may be the lower
  either : (i p q : ℕ) → T (clash (phy_at d i p) (phy_at d i q)) → T (clash (phy_at d i q) (phy_at d i p)) → p ≢ q → ⊥
  either i p q a b n = by_cases (dec_lt q p) (λ h. no_clash i p q h a) (λ h. no_clash i q p (omega arith) b)

  one-kind : (i p q : ℕ) → T (attached (phy_at d i p)) → T (attached (phy_at d i q)) → address_of (phy_at d i p) ≡ address_of (phy_at d i q)
      → attribute_of (phy_at d i p) ≡ attribute_of (phy_at d i q)
  one-kind i p q t u e = by_cases (ℕ_discrete (attribute_of (phy_at d i p)) (attribute_of (phy_at d i q))) (λ k. k)
      (λ k. absurd (either i p q
      (clash-attribute (phy_at d i p) (phy_at d i q) t u e k) (clash-attribute (phy_at d i q) (phy_at d i p) u t (sym e) (λ o. k (sym o)))
      (λ o. k (ap (λ v. attribute_of (phy_at d i v)) o))))

  one_way : (i p q : ℕ) → T (attached (phy_at d i p)) → T (attached (phy_at d i q)) → T (is_subtractive (phy_at d i p)) → T (is_subtractive (phy_at d i q))
      → address_of (phy_at d i p) ≡ address_of (phy_at d i q)
  one_way i p q t u x y = by_cases (ℕ_discrete (address_of (phy_at d i p)) (address_of (phy_at d i q))) (λ k. k)
      (λ k. absurd (either i p q
      (clash-address (phy_at d i p) (phy_at d i q) t u x y k) (clash-address (phy_at d i q) (phy_at d i p) u t y x (λ o. k (sym o)))
      (λ o. k (ap (λ v. address_of (phy_at d i v)) o))))

  loadable : (i p : ℕ) → T (is_table (phy_at d i p)) → (expander_at d i).configurable ≢ 0
  unfolding fixed
  loadable i p t e = s.ten i p (search tests)

  pub passed_wires : Wired d
  passed_wires = record {
    number = numbers-differ d g.differ;
    borne = λ j h. (read-expander most d g j h).borne;
    few = λ i p t. let a = in_range_lem d i p t in omega (arith, a.1, (read-expander most d g i a.0).few, g.range.phys.1);
    plain = all_plain most d g;
    attached_borne = λ i p t. read-borne (phy_at d i p) (read-phy most d g i p (in_range_lem d i p t).1) t;
    routing = routed;
    answer = answered;
    back = named_back;
    apart = own_address_lem;
    one_place = λ i p j q t u e. by_cases (ℕ_discrete i j) (λ k. k)
        (λ k. absurd (by_cases (dec_lt i j) (not_earlier i p j q t u e) (λ n. not_earlier j q i p u t (sym e) (omega arith))));
    kind = one-kind;
    one_way = one_way;
    configured = loadable;
  }

-- the phy at which an expander has an end device
pub end-at : (s : ℕ) (e : Expander) → T (end_at s e) → (p : ℕ) × T (to_end (get_or e.phys p (Vacant 0))) × (address_of (get_or e.phys p (Vacant 0)) ≡ s)
unfolding end_at
end-at s e t =
    let f = of-any (λ φ. to_end φ && eqb (address_of φ) s) e.phys t in
    let n = get_d_in e.phys (Vacant 0) f.0 f.1 in
    let z = subst (λ φ. T (to_end φ && eqb (address_of φ) s)) (sym n.2) f.2 in
    (n.0, search tests, search tests)

module _ (d : Domain) (w : Wired d) where
  answers : (i p : ℕ) → T (unanswered d i p) → ⊥
  unfolding unanswered
  answers i p t =
      let u : T (to_expander (phy_at d i p)) = search tests in
      let a = w.answer i p u in
      let b = w.back i p u in
      let φ = phy_at d i p in
      let m = names (expander_at d i).address p (far_phy d φ) in
      let v : T (is_direct φ || not m) = search tests in
      ⊎_elim
      (λ z. ⊎_elim (λ o. let n = attribute-one 0 1 φ z o in omega arith) (λ o. let n = attribute-one 0 2 φ z o in omega arith) (w.routing i p u))
      (λ z. T_not m z (search (tests, a.expander, a.address)))
      (or_cases (is_direct φ) (not m) v)

  unclaimed : (i p : ℕ) → T (claimed d i p) → ⊥
  unfolding claimed
  unclaimed i p t =
      let u : T (to_end (phy_at d i p)) = search tests in
      let a = address_of (phy_at d i p) in
      ⊎_elim
      (λ v. let h = ltb→lt (number_of d a) (length d) v in w.apart i p (number_of d a) u h (sym (number_of-is d a h)))
      (λ v. let o = of-any (end_at a) (take i d) v in
      let k = take_in i d no_expander o.0 o.1 in
      let f = end-at a (expander_at d k.0) (subst (λ e. T (end_at a e)) (sym k.3) o.2) in
      omega (arith, k.1, w.one_place k.0 f.0 i p f.1 u f.2))
      (or_cases (ltb (number_of d a) (length d)) (any (end_at a) (take i d)) (search tests))

  unclashing : (i p : ℕ) → T (clashing d i p) → ⊥
  unfolding clashing
  unclashing i p t =
      let o = of-any (clash (phy_at d i p)) (take p (expander_at d i).phys) t in
      let k = take_in p (expander_at d i).phys (Vacant 0) o.0 o.1 in
      clash-why (phy_at d i p) (phy_at d i k.0) (w.kind i p k.0) (w.one_way i p k.0) (subst (λ ψ. T (clash (phy_at d i p) ψ)) (sym k.3) o.2)

  unfixed : (i p : ℕ) → T (fixed d i p) → ⊥
  unfolding fixed
  unfixed i p t = w.configured i p (search tests) (search tests)

  pub wires_passed : Passed d
  wires_passed = record { seven = answers; eight = unclaimed; nine = unclashing; ten = unfixed }

pub wired_iff : (most : Setting) (d : Domain) → Read most d → (wired_domain d ≡ good d) ↔ Wired d
wired_iff most d g = (λ e. passed_wires most d g ((passed_iff d).0 e), λ w. (passed_iff d).1 (wires_passed d w))

-- a file past causes 22 and 1 to 10: it reads as a domain that is past 7 to 10
pub wired-file : (setting : Setting) (file : List ℕ) (d : Domain) → (wired setting file ≡ good d) ↔ ((domain_read setting file ≡ good d) × (wired_domain d ≡ good d))
wired-file setting file d = then_same (domain_read setting file) wired_domain d (λ a. wired-same a d)

pub wired_wires : (setting : Setting) (file : List ℕ) (d : Domain) → wired setting file ≡ good d → Wired d
wired_wires setting file d e = let r = (wired-file setting file d).0 e in (wired_iff setting d (read-good setting file d r.0)).0 r.1

-- causes 11, 12 and 23
unlooped-good : (d e : Domain) → unlooped d ≡ good e → ¬ (LoopIn d)
unfolding unlooped
unlooped-good d e f =
    (loopfree_iff (length d) (neighbours d) (adj_symmetric d)).0 (unless-good (loopfree (length d) (neighbours d)) (refusal 11 0 0) (good d) e f).0

good-unlooped : (d : Domain) → ¬ (LoopIn d) → unlooped d ≡ good d
unfolding unlooped
good-unlooped d f =
    good-unless (loopfree (length d) (neighbours d)) (refusal 11 0 0) (good d) ((loopfree_iff (length d) (neighbours d) (adj_symmetric d)).1 f)

pub joined_in-good : (l : List ℕ) (d e : Domain) → joined_in l d ≡ good e → (d ≡ e) × ((i : ℕ) → In i l → T (joined d i))
unfolding joined_in
joined_in-good [] d e f = (good-one d e f, λ i h. absurd h)
joined_in-good (j ∷ l) d e f = by-test (joined d j)
    (λ q. let s = joined_in-good l d e (rw q at f) in (s.0, all_cons (λ v. T (joined d v)) j l (was_true (joined d j) q) s.1))
    (λ q. never (refusal 12 j 0) e (rw q at f))

pub good-joined_in : (l : List ℕ) (d : Domain) → ((i : ℕ) → In i l → T (joined d i)) → joined_in l d ≡ good d
unfolding joined_in
good-joined_in [] d f = refl
good-joined_in (j ∷ l) d f = rw (is_true (joined d j) (f j (inl refl))) (good-joined_in l d (λ i h. f i (inr h)))

-- a chain joins an expander to expander 0 exactly when the test says so
pub joined_iff : (d : Domain) (i : ℕ) → i < length d → T (joined d i) ↔ ((l : List ℕ) × ChainIn d 0 i l)
unfolding joined
joined_iff d i h = reached_iff (length d) (neighbours d) 0 i (omega arith)

linked-links : (chain : ℕ) (d e : Domain) → linked_domain chain d ≡ good e → (d ≡ e) × Linked d × ShortChains chain d
unfolding linked_domain unlong
linked-links chain d e f =
    let a = then-good (unlooped d) _ e f in
    let b = then-good (joined_in (up_to (length d)) d) _ e a.2 in
    let j = joined_in-good (up_to (length d)) d b.0 b.1 in
    let c = unless-good (chains_within chain d) (refusal 23 0 0) (good d) e b.2 in
    let l : Linked d = record { no_loop = unlooped-good d a.0 a.1; chained = λ i h. (joined_iff d i h).0 (j.1 i (in_up_to (length d) i h)) } in
    (good-one d e c.1, l, (within_iff chain d l.no_loop l.chained).0 c.0)

links-linked : (chain : ℕ) (d : Domain) → Linked d → ShortChains chain d → linked_domain chain d ≡ good d
unfolding linked_domain unlong
links-linked chain d r s =
    good-then (unlooped d) _ d d (good-unlooped d r.no_loop)
    (good-then (joined_in (up_to (length d)) d) _ d d
    (good-joined_in (up_to (length d)) d (λ i h. let k = numbers-below (length d) i h in (joined_iff d i k).1 (r.chained i k)))
    (good-unless (chains_within chain d) (refusal 23 0 0) (good d) ((within_iff chain d r.no_loop r.chained).1 s)))

pub linked_iff : (chain : ℕ) (d : Domain) → (linked_domain chain d ≡ good d) ↔ (Linked d × ShortChains chain d)
linked_iff chain d = (λ e. let l = linked-links chain d d e in (l.1, l.2), λ l. links-linked chain d l.0 l.1)

pub linked-same : (chain : ℕ) (d e : Domain) → linked_domain chain d ≡ good e → d ≡ e
linked-same chain d e f = (linked-links chain d e f).0
