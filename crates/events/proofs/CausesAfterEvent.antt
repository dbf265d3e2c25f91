-- After an event on an accepted domain only causes 8 of the event's address, 9 at the named expander and 14 can hold: the others see cables,
-- addresses of expanders and attributes, which stay as they were.
use mathlib.Core.Path.{◌≡◌, refl, sym, ap, ap₂, subst, subst₂, fun_ext, ◌∙◌}
use mathlib.Core.Logic.{⊎_elim, ◌≢◌, by_cases}
use mathlib.Core.List.{List, [], ◌∷◌, ◌++◌}
use mathlib.Core.Bool.{Bool, false, cond, not, ◌||◌, ◌&&◌}
use Prim.Native.Nat.{ℕ, zero, suc, ◌+◌, ◌*◌, ◌^◌, ◌≤◌, ◌<◌}
use native.Mathlib.Omega.{arith}
use native.Mathlib.Decide.{ℕ_discrete}
use lib.ListN.{length, get_or, take, set, replicate, length-replicate}
use lib.Dec.{T, eqb, ltb, ltb→lt}
use borrow.Author.Tests.{eq-eqb}
use Rattle.frames.specs.Refusals.{Result, refused, good, then, refusal}
use Rattle.files.specs.declared.Setting.{Setting}
use Rattle.files.specs.declared.Phy.{Phy}
use Rattle.files.specs.declared.Phy.TheVariants.{Vacant}
use Rattle.files.specs.Lists.{In, any}
use Rattle.files.specs.Domain.{Expander, Domain, no_expander, expander_at, phy_at, address_of, attached_phy_of, is_direct, to_end, to_expander, number_of}
use Rattle.files.specs.ReadDomain.{Read}
use Rattle.wiring.specs.phys.PhyCauses.{Place, place, phy_places, places_from, places, far_phy, names, unanswered, end_at, claimed, clash, clashing, fixed, first_in, first_of, wired_domain}
use Rattle.wiring.specs.index.AddressIndex.{slots_before, is_taken}
use Rattle.wiring.specs.graph.Graph.{Loop, Chain}
use Rattle.wiring.specs.graph.Neighbours.{cabled, neighbours}
use Rattle.wiring.specs.graph.LongChains.{ShortChains}
use Rattle.wiring.specs.graph.LinkCauses.{linked_domain, checked_domain}
use Rattle.wiring.specs.WiringCauses.{Passed, Linked}
use Rattle.files.specs.PhyReplaced.{with_phy}
use Rattle.files.proofs.ListMembers.{tests, by-test, or_cases, is_false, of-any, take_in, in_append}
use Rattle.files.proofs.ReadDomain.{read-good}
use Rattle.wiring.proofs.phys.WiredPhys.{Wired}
use Rattle.files.proofs.Domains.{number_of-is}
use Rattle.wiring.proofs.WiredAndLinked.{good-first_in, good-first_of, passed_iff, linked_iff, end-at}
use Rattle.wiring.proofs.CheckOutcomes.{checked_room}
use Rattle.tables.specs.JudgingCall.{judged_domain, judged}
use Rattle.tables.specs.lists.PreparedLists.{own_overlong}
use Rattle.tables.specs.events.ReplugCall.{pluggable, replug, replugged, claimed_with, retested}
use Rattle.tables.proofs.AcceptedDomains.{judged-routable, judged-file, judged_wires}
use Rattle.tables.proofs.CallOutcomes.{own_checked}
use Rattle.tables.proofs.lists.LevelListsByOwn.{judged-read}
use Rattle.events.specs.declared.Event.{Event}
use Rattle.events.specs.Events.{named, edited}
use Rattle.events.specs.EventFile.{file_edited}
use Rattle.tables.proofs.events.LevelsAfterEvent.{unattached, replug-unattached, size_same, number_same, other, by-expander, by-phy, address_same, configurable-same, attribute-same, phy-kept}
use Rattle.events.proofs.EditedFile.{edited-read}

-- a member replaced by one of which the test says the same
any-set : {A : Type 0} (test : A → Bool) (none : A) (l : List A) (k : ℕ) (x : A) → test x ≡ test (get_or l k none) → any test (set l k x) ≡ any test l
unfolding any
any-set test none [] k x h = refl
any-set test none (y ∷ l) zero x h = ap (λ b. b || any test l) h
any-set test none (y ∷ l) (suc k) x h = ap (λ b. test y || b) (any-set test none l k x h)

-- searches over places
module _ (n : ℕ) (d : Domain) where
  first-same : (f g : ℕ → ℕ → Bool) (qs : List Place) → ((i p : ℕ) → f i p ≡ g i p) → first_in n f qs d ≡ first_in n g qs d
  unfolding first_in
  first-same f g [] h = refl
  first-same f g (v ∷ qs) h =
      ap₂ (λ b r. cond b (refused (refusal n v.expander v.phy)) r) (h v.expander v.phy) (first-same f g qs h)

  first-append : (test : ℕ → ℕ → Bool) (xs ys : List Place) → first_in n test (xs ++ ys) d ≡ then (first_in n test xs d) (λ _. first_in n test ys d)
  unfolding first_in
  first-append test [] ys = refl
  first-append test (v ∷ xs) ys = by-test (test v.expander v.phy) (λ k. rw k refl) (λ k. rw k (first-append test xs ys))

  then-done : (test : ℕ → ℕ → Bool) (qs : List Place) → then (first_in n test qs d) (λ _. good d) ≡ first_in n test qs d
  unfolding first_in
  then-done test [] = refl
  then-done test (v ∷ qs) = by-test (test v.expander v.phy) (λ k. rw k refl) (λ k. rw k (then-done test qs))

-- of which expander places are
in_phys : (i p count : ℕ) (v : Place) → In v (phy_places i p count) → v.expander ≡ i
unfolding phy_places
in_phys i p zero v h = absurd h
in_phys i p (suc count) v h = ⊎_elim (λ z. ap (λ (w : Place). w.expander) z) (in_phys i (p + 1) count v) h

in_from : (x : Domain) (i : ℕ) (v : Place) → In v (places_from i x) → i ≤ v.expander
unfolding places_from
in_from [] i v h = absurd h
in_from (y ∷ x) i v h =
    ⊎_elim (λ k. omega (arith, in_phys i 0 (length y.phys) v k)) (λ k. omega (arith, in_from x (i + 1) v k))
    (in_append (phy_places i 0 (length y.phys)) (places_from (i + 1) x) v h)

-- a test that holds at phys of expander e alone finds its first place among them
module _ (n : ℕ) (test : ℕ → ℕ → Bool) (d : Domain) (e : ℕ) (only : (i p : ℕ) → i ≢ e → ¬ (T (test i p))) where
  one-expander : (x : Domain) (i j : ℕ) → i + j ≡ e → first_in n test (places_from i x) d ≡ first_in n test (phy_places e 0 (length (expander_at x j).phys)) d
  unfolding places_from phy_places first_in
  one-expander [] i j h = refl
  one-expander (y ∷ x) i zero h =
      let z : i ≡ e = omega arith in
      first-append n d test (phy_places i 0 (length y.phys)) (places_from (i + 1) x)
      ∙ ap (λ r. then (first_in n test (phy_places i 0 (length y.phys)) d) (λ _. r))
      (good-first_in n test (places_from (i + 1) x) d (λ k p m. only k p (λ o. omega (arith, in_from x (i + 1) (place k p) m))))
      ∙ then-done n d test (phy_places i 0 (length y.phys))
      ∙ ap (λ k. first_in n test (phy_places k 0 (length y.phys)) d) z
  one-expander (y ∷ x) i (suc j) h =
      first-append n d test (phy_places i 0 (length y.phys)) (places_from (i + 1) x)
      ∙ ap (λ r. then r (λ _. first_in n test (places_from (i + 1) x) d))
      (good-first_in n test (phy_places i 0 (length y.phys)) d (λ k p m. only k p (λ o. omega (arith, in_phys i 0 (length y.phys) (place k p) m))))
      ∙ one-expander x (i + 1) j (omega arith)

-- causes that pass fall away
passing : (x : Domain) (a b c w l z : Result Domain) → a ≡ good x → w ≡ good x → l ≡ good x
    → then (then (then a (λ _. then b (λ _. then c (λ _. w)))) (λ _. l)) (λ _. z) ≡ then b (λ _. then c (λ _. z))
passing x a b c w l z e f g = rw (e, f, g) (go b c)
  where
    go : (b c : Result Domain) → then (then (then b (λ _. then c (λ _. good x))) (λ _. good x)) (λ _. z) ≡ then b (λ _. then c (λ _. z))
    go (refused r) c = refl
    go (good y) (refused r) = refl
    go (good y) (good v) = refl

-- the domain d, and d with phy q of expander e plugged or pulled
module _ (d : Domain) (e q a : ℕ) (f : T (pluggable (phy_at d e q))) where
  abbrev ψ : Phy
  ψ = replug a (phy_at d e q)

  abbrev d' : Domain
  d' = replugged d e q a

  -- a test that fails of every phy that is not attached to an expander says the same of both phys
  alike : (test : Phy → Bool) → ((φ : Phy) → to_expander φ ≡ false → test φ ≡ false) → test ψ ≡ test (phy_at d e q)
  alike test h = h ψ (replug-unattached a (phy_at d e q) f) ∙ sym (h (phy_at d e q) (unattached (phy_at d e q) f))

  -- 7
  far-named : (s p : ℕ) (φ : Phy) → names s p (far_phy d' φ) ≡ names s p (far_phy d φ)
  far-named s p φ =
      by-phy d e q a f (names s p) (alike (names s p) (λ ω h. ap (λ b. b && (eqb (address_of ω) s && eqb (attached_phy_of ω) p)) h)) (number_of d' (address_of φ)) (attached_phy_of φ)
      ∙ ap (λ i. names s p (phy_at d i (attached_phy_of φ))) (number_same d e q a f (address_of φ))

  unanswered-same : (i p : ℕ) → unanswered d' i p ≡ unanswered d i p
  unfolding unanswered
  unanswered-same i p =
      let φ : Phy = phy_at d' i p in
      let s : ℕ = (expander_at d i).address in
      let test : Phy → Bool = λ ω. to_expander ω && (is_direct ω || not (names s p (far_phy d ω))) in
      ap (λ v. to_expander φ && (is_direct φ || not (names v p (far_phy d' φ)))) (address_same d e q a f i)
      ∙ ap (λ b. to_expander φ && (is_direct φ || not b)) (far-named s p φ)
      ∙ by-phy d e q a f test (alike test (λ ω h. ap (λ b. b && (is_direct ω || not (names s p (far_phy d ω)))) h)) i p

  -- 10
  fixed_same : (i p : ℕ) → fixed d' i p ≡ fixed d i p
  unfolding fixed
  fixed_same i p = ap₂ (λ b n. b && eqb n 0) (attribute-same d e q a f 2 i p) (configurable-same d e q a f i)

  -- 11, 12 and 23: neighbours are as they were
  cabled-same : (i j : ℕ) → cabled d' i j ≡ cabled d i j
  unfolding cabled with_phy
  cabled-same i j =
      let test : ℕ → Phy → Bool = λ s φ. to_expander φ && eqb (address_of φ) s in
      let s : ℕ = (expander_at d j).address in
      ap (λ v. any (test v) (expander_at d' i).phys) (address_same d e q a f j)
      ∙ by-expander d e q a f (λ x. any (test s) x.phys)
      (any-set (test s) (Vacant 0) (expander_at d e).phys q ψ (alike (test s) (λ φ h. ap (λ b. b && eqb (address_of φ) s) h))) i

  neighbours-same : neighbours d' ≡ neighbours d
  unfolding neighbours
  neighbours-same = fun_ext (λ i. fun_ext (λ j. ap₂ ◌||◌ (cabled-same i j) (cabled-same j i)))

  links-same : (chain : ℕ) → Linked d → ShortChains chain d → linked_domain chain d' ≡ good d'
  links-same chain r s =
      let n = size_same d e q a f in
      (linked_iff chain d').1 (
        record {
          no_loop = λ l. r.no_loop (subst₂ Loop n neighbours-same l);
          chained = λ i h. let c = r.chained i (omega arith) in (c.0, subst₂ (λ m adj. Chain m adj 0 i c.0) (sym n) (sym neighbours-same) c.1);
        },
        λ i j l c. s i j l (subst₂ (λ m adj. Chain m adj i j l) n neighbours-same c),
      )

  -- 8: an address other than the event's was claimed nowhere, and a drive that is pulled claims none
  unclaimed : Wired d → (i p : ℕ) → address_of (phy_at d' i p) ≢ a → ¬ (T (claimed d' i p))
  unfolding claimed
  unclaimed w i p n t =
      let s : ℕ = address_of (phy_at d' i p) in
      let here = phy-kept d e q a f i p n in
      let u : T (to_end (phy_at d' i p)) = search tests in
      let u₀ : T (to_end (phy_at d i p)) = subst (λ φ. T (to_end φ)) here u in
      ⊎_elim
      (λ v. let h = ltb→lt (number_of d' s) (length d') v in
      let k : number_of d s < length d = omega (arith, size_same d e q a f, number_same d e q a f s) in
      w.apart i p (number_of d s) u₀ k (ap address_of (sym here) ∙ sym (number_of-is d s k)))
      (λ v. let o = of-any (end_at s) (take i d') v in
      let k = take_in i d' no_expander o.0 o.1 in
      let g = end-at s (expander_at d' k.0) (subst (λ (x : Expander). T (end_at s x)) (sym k.3) o.2) in
      let there = phy-kept d e q a f k.0 g.0 (λ z. n (sym g.2 ∙ z)) in
      omega (arith, k.1, w.one_place k.0 g.0 i p (subst (λ φ. T (to_end φ)) there g.1) u₀ (ap address_of (sym there) ∙ g.2 ∙ ap address_of here)))
      (or_cases (ltb (number_of d' s) (length d')) (any (end_at s) (take i d')) (search tests))

  claimed_with_lem : Wired d → (i p : ℕ) → claimed d' i p ≡ claimed_with a d' i p
  unfolding claimed claimed_with
  claimed_with_lem w i p =
      let φ : Phy = phy_at d' i p in
      let s : ℕ = address_of φ in
      by_cases (ℕ_discrete s a)
      (λ z. ap (λ v. to_end φ && is_taken d' i v) z ∙ ap (λ b. to_end φ && (b && is_taken d' i a)) (sym (eq-eqb s a z)))
      (λ n. is_false (claimed d' i p) (unclaimed w i p n) ∙ sym (is_false (claimed_with a d' i p) (λ t. n (search tests))))

  -- 9: at other expanders phys are as they were
  unclashing : Passed d → (i p : ℕ) → i ≢ e → ¬ (T (clashing d' i p))
  unfolding clashing
  unclashing s i p k t =
      s.nine i p (subst (λ (x : Expander). T (any (clash (get_or x.phys p (Vacant 0))) (take p x.phys))) (other d e q a f i k) t)

  pub retested-is : (most : Setting) (chain : ℕ) → Read most d' → Passed d → Wired d → Linked d → ShortChains chain d → judged_domain chain d' ≡ retested e a d'
  unfolding checked_domain wired_domain retested
  retested-is most chain g s w r c =
      let first : List ℕ = replicate (slots_before (length d')) 0 in
      let low : List ℕ = replicate (128 * length d') 0 in
      let m : length first ≡ slots_before (length d') = length-replicate (slots_before (length d')) 0 in
      let n : length low ≡ 128 * length d' = length-replicate (128 * length d') 0 in
      sym (judged-read most d' g chain first low (record { slots = omega arith; phys = omega arith }))
      ∙ own_checked chain (length first) (length low) d' (checked_domain chain d') (checked_room chain d' (length first) (length low) (omega arith) (omega arith))
      ∙ passing d' (first_of 7 (unanswered d') d') (first_of 8 (claimed d') d') (first_of 9 (clashing d') d') (first_of 10 (fixed d') d') (linked_domain chain d') (first_of 14 (own_overlong d') d')
      (good-first_of 7 (unanswered d') d' (λ i p t. s.seven i p (subst T (unanswered-same i p) t)))
      (good-first_of 10 (fixed d') d' (λ i p t. s.ten i p (subst T (fixed_same i p) t)))
      (links-same chain r c)
      ∙ ap₂ (λ x y. then x (λ _. then y (λ _. first_of 14 (own_overlong d') d')))
      (first-same 8 d' (claimed d') (claimed_with a d') (places d') (claimed_with_lem w))
      (one-expander 9 (clashing d') d' e (unclashing s) d' 0 e (omega arith))

-- judging the edited domain of an accepted file
pub retested-judged : (setting : Setting) (file : List ℕ) (d : Domain) (v : Event) → judged setting file ≡ good d → T (pluggable (named d v)) → v.address < 256 ^ 8
    → judged_domain setting.chain (edited d v) ≡ retested v.expander.0 v.address (edited d v)
retested-judged setting file d v j f fits =
    let k = (judged-file setting file d).0 j in
    let w = judged_wires setting file d j in
    let p = (passed_iff d).0 (judged-routable setting.chain d d k.1).1 in
    retested-is d v.expander.0 v.phy.0 v.address f setting setting.chain
    (read-good setting (file_edited file v) (edited d v) (edited-read setting file d k.0 v f fits).1) p w.0 w.1.linked w.1.short
