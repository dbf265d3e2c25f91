-- A trace reads no words but those of the tables: over words that are alike there it is the same.
use Prim.Native.Nat.{ℕ, zero, suc, ◌+◌, ◌≤◌, ◌<◌}
use mathlib.Core.Path.{◌≡◌, refl, sym, ap, ap₂, ◌∙◌}
use mathlib.Core.Bool.{Bool, cond, ◌&&◌}
use mathlib.Core.List.{List, [], ◌∷◌}
use native.Mathlib.Omega.{arith}
use lib.ListN.{length, get_or, take, drop, length-drop}
use lib.Seq.{ext_get_or, get_or-drop, get_or-take, length-take-le}
use lib.Dec.{T, eqb}
use Rattle.files.specs.Lists.{is_in}
use Rattle.files.specs.Domain.{Domain, expander_at, phy_at, is_table, to_expander}
use Rattle.files.proofs.ListMembers.{by-test, was_true}
use Rattle.tables.specs.filling.Tables.{needed, offset, stretch}
use Rattle.tables.proofs.filling.TableStretches.{stretch-within}
use Rattle.tracing.specs.Steps.{Step, here, end_device, bad, lost, onward, Pick, at, pick, phy_numbers, came_from, subtractively, by_table, directly, bearing, listing, subtracting, step}
use Rattle.tracing.specs.Trace.{Traced, after, after_step, trace_from, Request, traced}

picks-alike : (f g : ℕ → Bool) → ((p : ℕ) → f p ≡ g p) → (l : List ℕ) → pick f l ≡ pick g l
unfolding pick
picks-alike f g h [] = refl
picks-alike f g h (p ∷ l) = ap₂ (λ (b : Bool) (x : Pick). cond b (at p) x) (h p) (picks-alike f g h l)

steps_alike : (i : ℕ) (f g : ℕ → ℕ → Traced) → ((j q : ℕ) → f j q ≡ g j q) → (s : Step) → after_step i f s ≡ after_step i g s
unfolding after_step
steps_alike i f g h here = refl
steps_alike i f g h (end_device p) = refl
steps_alike i f g h bad = refl
steps_alike i f g h lost = refl
steps_alike i f g h (onward j q) = ap (after (i ∷ [])) (h j q)

module _ (d : Domain) (one other : List ℕ) (m : needed d ≤ length one) (n : needed d ≤ length other)
    (alike : (k : ℕ) → k < needed d → get_or one k 0 ≡ get_or other k 0) where
  stretch-alike : (i p : ℕ) → T (is_table (phy_at d i p)) → stretch d one i p ≡ stretch d other i p
  unfolding stretch
  stretch-alike i p t =
      let from = offset d i p in
      let count = (expander_at d i).route_indexes in
      let w = stretch-within d i p t in
      let x : length (take count (drop from one)) ≡ count = length-take-le count (drop from one) (omega (arith, length-drop from one)) in
      let y : length (take count (drop from other)) ≡ count = length-take-le count (drop from other) (omega (arith, length-drop from other)) in
      ext_get_or 0 (take count (drop from one)) (take count (drop from other)) (x ∙ sym y) (λ k h.
      get_or-take count (drop from one) k 0 (omega arith) ∙ get_or-drop from one k 0 ∙ alike (from + k) (omega arith)
      ∙ sym (get_or-take count (drop from other) k 0 (omega arith) ∙ get_or-drop from other k 0))

  listing-alike : (i s p : ℕ) → listing d one i s p ≡ listing d other i s p
  listing-alike i s p = by-test (is_table (phy_at d i p))
      (λ e. ap (λ (l : List ℕ). to_expander (phy_at d i p) && (is_table (phy_at d i p) && is_in s l)) (stretch-alike i p (was_true (is_table (phy_at d i p)) e)))
      (λ e. rw e refl)

  step-alike : (i arrival s : ℕ) → step d one i arrival s ≡ step d other i arrival s
  unfolding step
  step-alike i arrival s =
      let came = came_from d i arrival in
      ap (λ (x : Pick). cond (eqb (expander_at d i).address s) here (directly d i came (pick (bearing d i s) (phy_numbers d i)) (by_table d i came x (subtractively d i came (pick (subtracting d i) (phy_numbers d i))))))
      (picks-alike (listing d one i s) (listing d other i s) (listing-alike i s) (phy_numbers d i))

  from-alike : (s k i arrival : ℕ) → trace_from k d one i arrival s ≡ trace_from k d other i arrival s
  unfolding trace_from
  from-alike s zero i arrival = refl
  from-alike s (suc k) i arrival =
      ap (after_step i (λ j q. trace_from k d one j q s)) (step-alike i arrival s)
      ∙ steps_alike i (λ j q. trace_from k d one j q s) (λ j q. trace_from k d other j q s) (λ j q. from-alike s k j q) (step d other i arrival s)

  pub traced-alike : (r : Request) → traced d one r ≡ traced d other r
  unfolding traced
  traced-alike r = from-alike r.address (length d) r.start r.arrival
