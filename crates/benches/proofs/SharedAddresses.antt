-- An address that is a device's in both of two accepted domains: 4 holds of the joined domain where expanders share one, and otherwise 7 holds nowhere
-- in it and 8 somewhere.
use Prim.Native.Nat.{ℕ, zero, suc, ◌+◌, ◌-◌, ◌≤◌, ◌<◌}
use mathlib.Core.Path.{◌≡◌, refl, sym, ap, subst, ◌∙◌}
use mathlib.Core.Logic.{◌⊎◌, inl, inr, ◌≢◌, by_cases}
use mathlib.Core.Bool.{not, ◌||◌, ◌&&◌}
use native.Mathlib.Decide.{ℕ_discrete, dec_lt}
use native.Mathlib.Nat.{zero-add}
use native.Mathlib.Omega.{arith}
use lib.ListN.{length, take}
use lib.Dec.{T, eqb, ltb, eqb→eq, lt→ltb, T_not}
use Rattle.files.specs.declared.Phy.{Phy}
use Rattle.files.specs.declared.Phy.TheVariants.{Vacant}
use Rattle.files.specs.Lists.{any}
use Rattle.files.specs.Domain.{Domain, no_expander, expander_at, phy_at, address_of, attached_phy_of, is_direct, to_end, to_expander, number_of}
use Rattle.files.proofs.Domains.{end-attached, expander-attached, in_range_lem, number_of-is}
use Rattle.files.proofs.ListMembers.{by-test, was_true, was_false, eq→eqb, and_left, and_both, or_left, or_right, any_of, in_get_d, in_take}
use Rattle.wiring.specs.phys.PhyCauses.{far_phy, names, unanswered, end_at, claimed}
use Rattle.wiring.specs.graph.Devices.{Home, Borne}
use Rattle.wiring.proofs.index.ExpanderNumbers.{number_le}
use Rattle.wiring.proofs.phys.WiredPhys.{Wired, far-below}
use Rattle.benches.specs.BenchRefusals.{Repeats, LowestRepeat}
use Rattle.benches.specs.BenchRows.{repeated_from, repeated}
use Rattle.benches.specs.JoinConditions.{Free}
use Rattle.benches.specs.Joined.{cabled_to, joined}
use Rattle.benches.proofs.PartsOfJoined.{Stands, attached-stays, attribute-inside, joined_length, first_stands, second_stands, first-cabled, second-cabled, number-first, number-second}
use Rattle.benches.proofs.JoinedDomains.{first_home, second_home}

-- v is the lowest expander from k on, of so many, that has the address of one before it; k and so many where there is none
record RepeatedIs (d : Domain) (count k v : ℕ) : Type 0 where
  from : k ≤ v
  most : v ≤ k + count
  below : (z : ℕ) → k ≤ z → z < v → number_of d (expander_at d z).address ≡ z
  here : v < k + count → number_of d (expander_at d v).address ≢ v

repeated-is : (d : Domain) (count k : ℕ) → RepeatedIs d count k (repeated_from d count k)
unfolding repeated_from
repeated-is d zero k = record { from = omega arith; most = omega arith; below = λ z a b. absurd (omega arith); here = λ h. absurd (omega arith) }
repeated-is d (suc count) k =
    let again = repeated-is d count (k + 1) in
    let f = again.from in
    let m = again.most in
    by-test (eqb (number_of d (expander_at d k).address) k)
    (λ t. rw t (record {
      from = omega arith;
      most = omega arith;
      below = λ z a b. by_cases (ℕ_discrete z k)
          (λ e. subst (λ v. number_of d (expander_at d v).address ≡ v) (sym e) (eqb→eq (number_of d (expander_at d k).address) k (was_true _ t)))
          (λ n. again.below z (omega arith) b);
      here = λ h. again.here (omega arith);
    }))
    (λ t. rw t (record {
      from = omega arith;
      most = omega arith;
      below = λ z a b. absurd (omega arith);
      here = λ h e. was_false (eqb (number_of d (expander_at d k).address) k) t (eq→eqb (number_of d (expander_at d k).address) k e);
    }))

-- 7 holds of no phy of a part that is past it, where the numbers of its addresses are what they were
module _ (d e : Domain) (w : Wired d) (seven : (x y : ℕ) → ¬ (T (unanswered d x y))) (k i p : ℕ) (st : Stands d e k i p) (f : Free d i p)
    (numbers : (t : ℕ) → number_of d t < length d → number_of e t ≡ k + number_of d t) where
  far-stays : (x y : ℕ) → T (to_expander (phy_at d x y)) → far_phy e (phy_at d x y) ≡ far_phy d (phy_at d x y)
  far-stays x y t =
      let n = far-below d w x y t in
      ap (λ v. phy_at e v (attached_phy_of (phy_at d x y))) (numbers (address_of (phy_at d x y)) n)
      ∙ attached-stays d e k i p (number_of d (address_of (phy_at d x y))) (attached_phy_of (phy_at d x y)) st f n (expander-attached (far_phy d (phy_at d x y)) (w.answer x y t).expander)

  seven-stays : (x y : ℕ) → x < length d → phy_at e (k + x) y ≡ phy_at d x y → T (unanswered e (k + x) y) → ⊥
  unfolding unanswered
  seven-stays x y h s t =
      let φ = phy_at d x y in
      let a : T (to_expander φ && (is_direct φ || not (names (expander_at e (k + x)).address y (far_phy e φ)))) =
      subst (λ (ψ : Phy). T (to_expander ψ && (is_direct ψ || not (names (expander_at e (k + x)).address y (far_phy e ψ))))) s t in
      let b = subst (λ (v : ℕ). T (to_expander φ && (is_direct φ || not (names v y (far_phy e φ))))) (st.address x h) a in
      seven x y (subst (λ (ψ : Phy). T (to_expander φ && (is_direct φ || not (names (expander_at d x).address y ψ)))) (far-stays x y (and_left (to_expander φ) _ a)) b)

  -- nor of the cabled one, where the far end is cabled back
  module _ (s q m : ℕ) (cable : phy_at e (k + i) p ≡ cabled_to s q) (at : number_of e s ≡ m) (inside : i < length d)
      (back : phy_at e m q ≡ cabled_to (expander_at d i).address p) where
    seven-cabled : T (unanswered e (k + i) p) → ⊥
    unfolding unanswered
    seven-cabled t =
        let a : T (not (names (expander_at e (k + i)).address p (phy_at e (number_of e s) q))) =
        subst (λ (ψ : Phy). T (to_expander ψ && (is_direct ψ || not (names (expander_at e (k + i)).address p (far_phy e ψ))))) cable t in
        let b = subst (λ (v : ℕ). T (not (names (expander_at e (k + i)).address p (phy_at e v q)))) at a in
        let c : T (not (eqb (expander_at d i).address (expander_at e (k + i)).address && eqb p p)) =
        subst (λ (ψ : Phy). T (not (names (expander_at e (k + i)).address p ψ))) back b in
        T_not (eqb (expander_at d i).address (expander_at e (k + i)).address && eqb p p) c
        (and_both (eqb (expander_at d i).address (expander_at e (k + i)).address) (eqb p p) (eq→eqb _ _ (sym (st.address i inside))) (eq→eqb p p refl))

    seven-part : (x y : ℕ) → x < length d → T (unanswered e (k + x) y) → ⊥
    seven-part x y h t = by_cases (ℕ_discrete x i)
        (λ u. by_cases (ℕ_discrete y p)
        (λ v. seven-cabled (subst (λ z. T (unanswered e (k + z) p)) u (subst (λ z. T (unanswered e (k + x) z)) v t)))
        (λ v. seven-stays x y h (st.other x y h (λ o. v o.1)) t))
        (λ u. seven-stays x y h (st.other x y h (λ o. u o.0)) t)

-- 8 holds where two expanders have devices with one address, unless both bear it themselves
module _ (e : Domain) (s : ℕ) where
  claims : (m y : ℕ) → T (to_end (phy_at e m y)) → address_of (phy_at e m y) ≡ s → T (ltb (number_of e s) (length e)) ⊎ T (any (end_at s) (take m e)) → T (claimed e m y)
  unfolding claimed
  claims m y t a o =
      and_both (to_end (phy_at e m y)) _ t
      (subst (λ v. T (ltb (number_of e v) (length e) || any (end_at v) (take m e))) (sym a) (either o))
    where
      either : T (ltb (number_of e s) (length e)) ⊎ T (any (end_at s) (take m e)) → T (ltb (number_of e s) (length e) || any (end_at s) (take m e))
      either (inl u) = or_left (ltb (number_of e s) (length e)) (any (end_at s) (take m e)) u
      either (inr u) = or_right (ltb (number_of e s) (length e)) (any (end_at s) (take m e)) u

  end_before : (x m y : ℕ) → x < m → T (to_end (phy_at e x y)) → address_of (phy_at e x y) ≡ s → T (any (end_at s) (take m e))
  unfolding end_at
  end_before x m y h t a =
      let r = in_range_lem e x y (end-attached (phy_at e x y) t) in
      any_of (end_at s) (take m e) (expander_at e x) (in_take e no_expander x m h r.0)
      (any_of (λ φ. to_end φ && eqb (address_of φ) s) (expander_at e x).phys (phy_at e x y) (in_get_d (expander_at e x).phys (Vacant 0) y r.1)
      (and_both (to_end (phy_at e x y)) (eqb (address_of (phy_at e x y)) s) t (eq→eqb (address_of (phy_at e x y)) s a)))

  known : (z : ℕ) → z < length e → (expander_at e z).address ≡ s → T (ltb (number_of e s) (length e))
  known z h a = let n = number_le e s z h a in lt→ltb (number_of e s) (length e) (omega arith)

  claimed-twice : (x z : ℕ) → x < z → z < length e → (expander_at e x).address ≢ (expander_at e z).address → Home e s x → Home e s z → (u v : ℕ) × T (claimed e u v)
  claimed-twice x z h k n (inl a) (inl b) = absurd (n (a ∙ sym b))
  claimed-twice x z h k n (inl a) (inr b) = (z, b.0, claims z b.0 b.1 b.2 (inl (known x (omega arith) a)))
  claimed-twice x z h k n (inr a) (inl b) = (x, a.0, claims x a.0 a.1 a.2 (inl (known z k b)))
  claimed-twice x z h k n (inr a) (inr b) = (z, b.0, claims z b.0 b.1 b.2 (inr (end_before x z a.0 h a.1 a.2)))

-- two domains past causes 1 to 10, with phys that can take the cable
module _ (d₁ : Domain) (i p : ℕ) (d₂ : Domain) (j q : ℕ) (w₁ : Wired d₁) (w₂ : Wired d₂) (f₁ : Free d₁ i p) (f₂ : Free d₂ j q) where
  abbrev e : Domain
  e = joined d₁ i p d₂ j q

  size : length e ≡ length d₁ + length d₂
  size = joined_length d₁ i p d₂ j q

  at : RepeatedIs e (length e) 0 (repeated e)
  at = repeated-is e (length e) 0

  -- the expanders of the first have their own numbers
  first_own : (x : ℕ) → x < length d₁ → number_of e (expander_at e x).address ≡ x
  first_own x h =
      let a : (expander_at e x).address ≡ (expander_at d₁ x).address = ap (λ v. (expander_at e v).address) (sym (zero-add x)) ∙ (first_stands d₁ i p d₂ j q f₁).address x h in
      let n = w₁.number x h in
      let m = number-first d₁ i p d₂ j q (expander_at d₁ x).address (omega arith) in
      ap (number_of e) a ∙ m ∙ zero-add _ ∙ n

  -- an expander of the second has its own unless its address is one of the first's
  second_own : (y : ℕ) → y < length d₂ → length d₁ ≤ number_of d₁ (expander_at d₂ y).address → number_of e (expander_at e (length d₁ + y)).address ≡ length d₁ + y
  second_own y h l =
      let n = w₂.number y h in
      let m = number-second d₁ i p d₂ j q (expander_at d₂ y).address l (omega arith) in
      ap (number_of e) ((second_stands d₁ i p d₂ j q f₂).address y h) ∙ m ∙ ap (λ v. length d₁ + v) n

  repeat_number : (y : ℕ) → Repeats d₁ d₂ y → number_of e (expander_at e (length d₁ + y)).address < length d₁
  repeat_number y o =
      let n = number_le d₁ (expander_at d₂ y).address o.1 o.2 o.3 in
      let h = o.2 in
      let a = ap (number_of e) ((second_stands d₁ i p d₂ j q f₂).address y o.0) in
      let m = number-first d₁ i p d₂ j q (expander_at d₂ y).address (omega arith) in
      omega arith

  not_below : (z : ℕ) → Repeats d₁ d₂ z → length d₁ + z < repeated e → ⊥
  not_below z o h = let m = at.below (length d₁ + z) (omega arith) h in let n = repeat_number z o in omega arith

  -- 4 holds: at the lowest expander of the second that has the address of one of the first's
  pub four-at : repeated e < length e → (y : ℕ) × LowestRepeat d₁ d₂ y × (repeated e ≡ length d₁ + y)
  four-at h =
      let s = size in
      let v = repeated e in
      let n = at.here (omega arith) in
      let l : length d₁ ≤ v = by_cases (dec_lt v (length d₁)) (λ u. absurd (n (first_own v u))) (λ u. omega arith) in
      let k : v ≡ length d₁ + (v - length d₁) = omega arith in
      let y = v - length d₁ in
      let m : y < length d₂ = omega arith in
      let r : number_of d₁ (expander_at d₂ y).address < length d₁ = by_cases (dec_lt (number_of d₁ (expander_at d₂ y).address) (length d₁)) (λ u. u)
      (λ u. absurd (n (subst (λ z. number_of e (expander_at e z).address ≡ z) (sym k) (second_own y m (omega arith))))) in (
        y,
        record {
          repeats = (m, number_of d₁ (expander_at d₂ y).address, r, number_of-is d₁ (expander_at d₂ y).address r);
          lowest = λ z o. by_cases (dec_lt z y) (λ u. absurd (not_below z o (omega arith))) (λ u. omega arith);
        },
        k,
      )

  -- 4 does not hold: no expander of the second has the address of one of the first's
  pub four_not : length e ≤ repeated e → (y : ℕ) → ¬ (Repeats d₁ d₂ y)
  four_not h y o = let s = size in let l = o.0 in not_below y o (omega arith)

  module _ (seven₁ : (x y : ℕ) → ¬ (T (unanswered d₁ x y))) (seven₂ : (x y : ℕ) → ¬ (T (unanswered d₂ x y))) (none : (y : ℕ) → ¬ (Repeats d₁ d₂ y)) where
    absent : (t : ℕ) → number_of d₂ t < length d₂ → length d₁ ≤ number_of d₁ t
    absent t h = by_cases (dec_lt (number_of d₁ t) (length d₁))
        (λ u. absurd (none (number_of d₂ t) (h, number_of d₁ t, u, number_of-is d₁ t u ∙ sym (number_of-is d₂ t h))))
        (λ u. omega arith)

    i_in : i < length d₁
    i_in = attribute-inside d₁ 1 i p (omega arith) f₁.subtractive

    j_in : j < length d₂
    j_in = attribute-inside d₂ 1 j q (omega arith) f₂.subtractive

    one_number : number_of e (expander_at d₁ i).address ≡ 0 + i
    one_number =
        let n = w₁.number i i_in in
        let h = i_in in
        number-first d₁ i p d₂ j q (expander_at d₁ i).address (omega arith) ∙ ap (λ v. 0 + v) n

    two-number : number_of e (expander_at d₂ j).address ≡ length d₁ + j
    two-number =
        let n = w₂.number j j_in in
        let h = j_in in
        number-second d₁ i p d₂ j q (expander_at d₂ j).address (absent (expander_at d₂ j).address (omega arith)) (omega arith) ∙ ap (λ v. length d₁ + v) n

    -- then 7 holds nowhere
    pub seven_not : (x y : ℕ) → ¬ (T (unanswered e x y))
    unfolding unanswered
    seven_not x y t = by_cases (dec_lt x (length d₁))
        (λ h. seven-part d₁ e w₁ seven₁ 0 i p (first_stands d₁ i p d₂ j q f₁) f₁ (number-first d₁ i p d₂ j q)
        (expander_at d₂ j).address q (length d₁ + j) (first-cabled d₁ i p d₂ j q f₁) two-number i_in (second-cabled d₁ i p d₂ j q f₂)
        x y h (subst (λ z. T (unanswered e z y)) (sym (zero-add x)) t))
        (λ h. let s = size in
        let l = (in_range_lem e x y (expander-attached (phy_at e x y) (and_left (to_expander (phy_at e x y)) _ t))).0 in
        let k : x ≡ length d₁ + (x - length d₁) = omega arith in
        seven-part d₂ e w₂ seven₂ (length d₁) j q (second_stands d₁ i p d₂ j q f₂) f₂ (λ u v. number-second d₁ i p d₂ j q u (absent u v) v)
        (expander_at d₁ i).address p (0 + i) (second-cabled d₁ i p d₂ j q f₂) one_number j_in (first-cabled d₁ i p d₂ j q f₁)
        (x - length d₁) y (omega arith) (subst (λ z. T (unanswered e z y)) k t))

    -- and 8 somewhere, where some address is a device's in both
    pub eight_somewhere : (s : ℕ) → Borne d₁ s → Borne d₂ s → (u v : ℕ) × T (claimed e u v)
    eight_somewhere s a b =
        let l = size in
        let h = a.1 in
        let k = b.1 in
        claimed-twice e s (0 + a.0) (length d₁ + b.0) (omega arith) (omega arith)
        (λ u. none b.0 (b.1, a.0, a.1, sym ((first_stands d₁ i p d₂ j q f₁).address a.0 a.1) ∙ u ∙ (second_stands d₁ i p d₂ j q f₂).address b.0 b.1))
        (first_home d₁ i p d₂ j q s a.0 f₁ a.1 a.2) (second_home d₁ i p d₂ j q s b.0 f₂ b.1 b.2)
