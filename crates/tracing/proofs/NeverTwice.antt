-- Whatever the words, no request passes an expander twice, its steps do not run out, and a device that asks for itself is told BAD DESTINATION.
use mathlib.Core.Path.{◌≡◌, refl, sym, ap, subst, ◌∙◌}
use mathlib.Core.Logic.{◌⊎◌, inl, inr, ◌≢◌}
use mathlib.Core.List.{List, [], ◌∷◌}
use Prim.Native.Nat.{ℕ, zero, suc, ◌≤◌, ◌<◌}
use native.Mathlib.Omega.{arith}
use lib.ListN.{length}
use lib.Dec.{T}
use Rattle.tables.specs.WiringDefinitions.{Distinct, Below, Domain, expander_at, phy_at, address_of, attached_phy_of, attached, to_end, to_expander, number_of, Steps, neighbours, LoopIn}
use Rattle.tables.proofs.WiringLemmas.{neqb, all_cons, at_most, Skip, NoBack, repeats-nothing, Wired, end-attached, expander-attached, in_range_lem, far-below, far-is, to-adj}
use Rattle.tracing.specs.Steps.{Step, here, end_device, bad, lost, onward, came_from, step}
use Rattle.tracing.specs.Trace.{Traced, ending_at, after_step, trace_from, request, traced}
use Rattle.tracing.specs.Demand3.{Stops, StepsTaken}
use Rattle.tracing.specs.declared.Outcome.{Outcome}
use Rattle.tracing.specs.declared.Outcome.TheVariants.{Arrived, NoDestination, BadDestination}
use Rattle.tracing.proofs.StepReasons.{at_once, listed, upward, Stepped, is_here, is_end, is_bad, is_lost, is_move, stepped}

-- the first of l, if any, does not bear the address
abbrev pub Fresh : Domain → ℕ → List ℕ → Type 0
Fresh d came [] = Unit {0}
Fresh d came (j ∷ l) = (expander_at d j).address ≢ came

-- i ∷ l is a walk that never turns straight back, not even to the address from which it came
pub record NeverBack (d : Domain) (i came : ℕ) (l : List ℕ) : Type 0 where
  pub steps : Steps (neighbours d) i l
  pub below : Below (length d) (i ∷ l)
  pub noback : NoBack i l
  pub fresh : Fresh d came l

module _ (d : Domain) (w : Wired d) where
  -- after a move the arrival phy is attached to where it came from
  pub came-far : (i p : ℕ) → T (to_expander (phy_at d i p))
      → came_from d (number_of d (address_of (phy_at d i p))) (attached_phy_of (phy_at d i p)) ≡ (expander_at d i).address
  came-far i p t =
      let a = w.answer i p t in
      let j = number_of d (address_of (phy_at d i p)) in
      let q = attached_phy_of (phy_at d i p) in
      let h = w.few j q (expander-attached (phy_at d j q) a.expander) in
      rw (neqb q 255 (omega arith)) a.address

  skip_of : (i j : ℕ) (l : List ℕ) → Fresh d (expander_at d i).address l → Skip i l
  skip_of i j [] f = tt
  skip_of i j (x ∷ l) f = λ e. f (ap (λ v. (expander_at d v).address) (sym e))

  module _ (words : List ℕ) (s : ℕ) where
    ended_here : (i came : ℕ) → i < length d → NeverBack d i came []
    ended_here i came h = record { steps = tt; below = all_cons (λ v. v < length d) i [] h (λ v k. absurd k); noback = tt; fresh = tt }

    -- nothing is passed, or a walk from i
    abbrev Goes : ℕ → ℕ → List ℕ → Type 0
    Goes i came t = (t ≡ []) ⊎ ((l : List ℕ) × (t ≡ i ∷ l) × NeverBack d i came l)

    walk-on : (i came p : ℕ) → i < length d → T (to_expander (phy_at d i p)) → address_of (phy_at d i p) ≢ came → (t : List ℕ)
        → Goes (number_of d (address_of (phy_at d i p))) (expander_at d i).address t → Goes i came (i ∷ t)
    walk-on i came p h x f t (inl e) = inr ([], ap (λ l. i ∷ l) e, ended_here i came h)
    walk-on i came p h x f t (inr g) =
        let j = number_of d (address_of (phy_at d i p)) in
        let r = g.2 in
        inr (
          j ∷ g.0,
          ap (λ l. i ∷ l) g.1,
          record {
            steps = (to-adj d w i p j (far-is d w i p x), r.steps);
            below = all_cons (λ v. v < length d) i (j ∷ g.0) h r.below;
            noback = (skip_of i j g.0 r.fresh, r.noback);
            fresh = λ e. f ((far-is d w i p x).address ∙ e);
          },
        )

    pub never_back : (k i arrival : ℕ) → i < length d → Goes i (came_from d i arrival) (trace_from k d words i arrival s).passed
    unfolding trace_from after_step
    never_back zero i arrival h = inl refl
    never_back (suc k) i arrival h = go (step d words i arrival s) (stepped d words i s arrival) (λ j q m. never_back k j q m)
      where
        go : (st : Step) → Stepped d words i s (came_from d i arrival) st
            → ((j q : ℕ) → j < length d → Goes j (came_from d j q) (trace_from k d words j q s).passed)
            → Goes i (came_from d i arrival) (after_step i (λ j q. trace_from k d words j q s) st).passed
        go st (is_here e) r = inr ([], refl, ended_here i _ h)
        go st (is_end p t e n) r = inr ([], refl, ended_here i _ h)
        go st (is_bad p t e f) r = inr ([], refl, ended_here i _ h)
        go st (is_lost n a u o) r = inr ([], refl, ended_here i _ h)
        go st (is_move p n x f c) r =
            let j = number_of d (address_of (phy_at d i p)) in
            let q = attached_phy_of (phy_at d i p) in
            let rest = (trace_from k d words j q s).passed in
            walk-on i (came_from d i arrival) p h x f rest (subst (λ v. Goes j v rest) (came-far i p x) (r j q (far-below d w i p x)))

    module _ (nl : ¬ (LoopIn d)) where
      goes-distinct : (i came : ℕ) (t : List ℕ) → Goes i came t → Distinct t × Below (length d) t
      goes-distinct i came t (inl e) = subst (λ l. Distinct l × Below (length d) l) (sym e) (tt, λ v k. absurd k)
      goes-distinct i came t (inr g) =
          let o = g.2 in
          subst (λ l. Distinct l × Below (length d) l) (sym g.1)
          (repeats-nothing (length d) (neighbours d) nl i g.0 o.steps o.noback o.below, o.below)

      -- no expander is passed twice
      pub passes-once : (i arrival : ℕ) → i < length d → Distinct (traced d words (request i arrival s)).passed
      unfolding traced
      passes-once i arrival h = (goes-distinct i (came_from d i arrival) _ (never_back (length d) i arrival h)).0

      pub passes-below : (i arrival : ℕ) → i < length d → Below (length d) (traced d words (request i arrival s)).passed
      unfolding traced
      passes-below i arrival h = (goes-distinct i (came_from d i arrival) _ (never_back (length d) i arrival h)).1

      pub passes-few : (k i arrival : ℕ) → i < length d → length (trace_from k d words i arrival s).passed ≤ length d
      passes-few k i arrival h =
          let r = goes-distinct i (came_from d i arrival) _ (never_back k i arrival h) in
          at_most (length d) (trace_from k d words i arrival s).passed r.1 r.0

    -- the steps of this trace were taken at the expanders it passed, and the last was no move onward
    abbrev AllTaken : ℕ → ℕ → Traced → Type 0
    AllTaken i arrival t = StepsTaken d words (request i arrival s) t.passed t.outcome t.last t.phy

    -- a trace that passes fewer expanders with a step more than it has steps has taken all of them
    all-taken : (k i arrival : ℕ) → length (trace_from (suc k) d words i arrival s).passed ≤ k → AllTaken i arrival (trace_from k d words i arrival s)
    unfolding trace_from after_step
    all-taken zero i arrival h = go (step d words i arrival s) h
      where
        go : (st : Step) → length (after_step i (λ j q. trace_from zero d words j q s) st).passed ≤ 0 → AllTaken i arrival (trace_from zero d words i arrival s)
        go here m = absurd (omega arith)
        go (end_device p) m = absurd (omega arith)
        go bad m = absurd (omega arith)
        go lost m = absurd (omega arith)
        go (onward j q) m = absurd (omega arith)
    all-taken (suc k) i arrival h = go (step d words i arrival s) refl (λ j q. all-taken k j q) h
      where
        stop : (o : Outcome) (p : ℕ) → Stops (step d words i arrival s) o p → AllTaken i arrival (ending_at o i p)
        stop o p e = record { rest = []; from_start = refl; ends = refl; taken = e }

        go : (st : Step) → step d words i arrival s ≡ st
            → ((j q : ℕ) → length (trace_from (suc k) d words j q s).passed ≤ k → AllTaken j q (trace_from k d words j q s))
            → length (after_step i (λ j q. trace_from (suc k) d words j q s) st).passed ≤ suc k
            → AllTaken i arrival (after_step i (λ j q. trace_from k d words j q s) st)
        go here e r m = stop Arrived 255 (subst (λ st. Stops st Arrived 255) (sym e) (refl, refl))
        go (end_device p) e r m = stop Arrived p (subst (λ st. Stops st Arrived p) (sym e) (refl, refl))
        go bad e r m = stop BadDestination 255 (subst (λ st. Stops st BadDestination 255) (sym e) (refl, refl))
        go lost e r m = stop NoDestination 255 (subst (λ st. Stops st NoDestination 255) (sym e) (refl, refl))
        go (onward j q) e r m =
            let t = r j q (omega arith) in
            record { rest = j ∷ t.rest; from_start = ap (λ l. i ∷ l) t.from_start; ends = t.ends; taken = (q, e, t.taken) }

    -- as many steps as there are expanders are enough
    pub steps-taken : ¬ (LoopIn d) → (i arrival : ℕ) → i < length d → AllTaken i arrival (traced d words (request i arrival s))
    unfolding traced
    steps-taken nl i arrival h = all-taken (length d) i arrival (omega (arith, passes-few nl (suc (length d)) i arrival h))

    -- an end device that asks for itself is told BAD DESTINATION
    asks-itself : (i arrival : ℕ) → T (to_end (phy_at d i arrival)) → address_of (phy_at d i arrival) ≡ s → step d words i arrival s ≡ bad
    asks-itself i arrival t e = go (step d words i arrival s) (stepped d words i s arrival)
      where
        here-attached : T (attached (phy_at d i arrival))
        here-attached = end-attached (phy_at d i arrival) t

        came : came_from d i arrival ≡ s
        came = let h = w.few i arrival here-attached in rw (neqb arrival 255 (omega arith)) e

        go : (st : Step) → Stepped d words i s (came_from d i arrival) st → st ≡ bad
        go st (is_here f) = absurd (w.apart i arrival i t (in_range_lem d i arrival here-attached).0 (e ∙ sym f))
        go st (is_end p u f n) = absurd (n (f ∙ sym came))
        go st (is_bad p u f g) = refl
        go st (is_lost n a u o) = absurd (a arrival here-attached e)
        go st (is_move p n x f (at_once g)) = absurd (f (g ∙ sym came))
        go st (is_move p n x f (listed a u o)) = absurd (a arrival here-attached e)
        go st (is_move p n x f (upward a u o)) = absurd (a arrival here-attached e)

    pub bad-itself : (i arrival : ℕ) → T (to_end (phy_at d i arrival)) → address_of (phy_at d i arrival) ≡ s
        → traced d words (request i arrival s) ≡ ending_at BadDestination i 255
    unfolding traced trace_from after_step
    bad-itself i arrival t e = go (length d) (in_range_lem d i arrival (end-attached (phy_at d i arrival) t)).0
      where
        go : (k : ℕ) → i < k → trace_from k d words i arrival s ≡ ending_at BadDestination i 255
        go zero h = absurd (omega arith)
        go (suc k) h = ap (after_step i (λ j q. trace_from k d words j q s)) (asks-itself i arrival t e)
