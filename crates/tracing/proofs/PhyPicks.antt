-- Picks, turn by turn, and what each step does with the phy picked. `inv` is the loop's invariant.
use Prim.Native.Nat.{ℕ, suc, ◌+◌, ◌-◌, ◌≤◌, ◌<◌}
use mathlib.Core.Path.{◌≡◌, refl, sym, ◌∙◌}
use mathlib.Core.Bool.{Bool, true, false, cond}
use mathlib.Core.List.{List}
use native.Mathlib.Omega.{arith}
use lib.ListN.{length, take, drop}
use lib.Dec.{T, eqb}
use borrow.Author.Tests.{ne_eqb}
use Rattle.tables.specs.WiringDefinitions.{numbers}
use Rattle.tables.specs.WiringDefinitions.{Domain, expander_at, phy_at, address_of, attached_phy_of, number_of, attached, to_expander, is_in}
use Rattle.tracing.specs.Steps.{Step as Stepped, here, bad, lost, Pick, at, nowhere, pick, phy_numbers, bearing, listing, subtracting}
use Rattle.tables.specs.filling.Tables.{offset, stretch}
use Rattle.tracing.specs.Steps.{came_from, move_by, arriving, subtractively, by_table, directly, step}
use Rattle.tracing.specs.declared.Step.{Step}
use Rattle.tracing.specs.declared.Step.TheVariants.{Onward}
use Rattle.tracing.specs.Answers.{step_of, bearing_pick, listing_pick, subtracting_pick, direct_step}
use Rattle.tables.proofs.WiringLemmas.{tests, expander-attached, in_range_lem}
use Rattle.tracing.proofs.StepReasons.{pick_at}

module _ (test : ℕ → Bool) (n p : ℕ) {v : Pick} (inv : pick test (numbers p (n - p)) ≡ v) where
  pick_next : p < n → pick test (numbers p (n - p)) ≡ cond (test p) (at p) (pick test (numbers (p + 1) (n - (p + 1))))
  unfolding pick numbers
  pick_next h = let e : n - p ≡ suc (n - (p + 1)) = omega arith in rw e

  pub pick-stop : test p ≡ true → p < n → at p ≡ v
  pick-stop q h = sym (pick_next h ∙ rw q) ∙ inv

  pub pick-go : test p ≡ false → p < n → pick test (numbers (p + 1) (n - (p + 1))) ≡ v
  pick-go q h = sym (pick_next h ∙ rw q) ∙ inv

  pub pick_end : n ≤ p → nowhere ≡ v
  unfolding pick numbers
  pick_end h = let e : n - p ≡ 0 = omega arith in sym (rw e) ∙ inv

-- what is picked by (ii) is attached, and by (iii) and (iv) attached to an expander
module _ (d : Domain) (i : ℕ) {p : ℕ} where
  pub bearing-attached : (s : ℕ) → at p ≡ bearing_pick d i s → T (attached (phy_at d i p))
  bearing-attached s e = let t = pick_at (bearing d i s) (phy_numbers d i) p (sym e) in search (tests, t)

  pub listing-far : (words : List ℕ) (s : ℕ) → at p ≡ listing_pick d words i s → T (to_expander (phy_at d i p))
  listing-far words s e = let t = pick_at (listing d words i s) (phy_numbers d i) p (sym e) in search (tests, t)

  -- and is a phy of the expander
  pub listing-range : (words : List ℕ) (s : ℕ) → at p ≡ listing_pick d words i s → p < length (expander_at d i).phys
  listing-range words s e = (in_range_lem d i p (expander-attached (phy_at d i p) (listing-far words s e))).1

  pub subtracting-far : at p ≡ subtracting_pick d i → T (to_expander (phy_at d i p))
  subtracting-far e = let t = pick_at (subtracting d i) (phy_numbers d i) p (sym e) in search (tests, t)

-- the words from the offset on are the stretch
pub in_stretch : (d : Domain) (words : List ℕ) (i p s : ℕ) {n from : ℕ} → n ≡ (expander_at d i).route_indexes → from ≡ offset d i p
    → is_in s (take n (drop from words)) ≡ is_in s (stretch d words i p)
unfolding stretch
in_stretch d words i p s e f = rw (e, f)

-- on over a phy, or `back` where its address s is the one that the request came from
module _ (d : Domain) (i p came : ℕ) (back : Step) {s : ℕ} (q : s ≡ address_of (phy_at d i p)) where
  pub move_on : {j f : ℕ} → (s ≡ came → ⊥) → j ≡ number_of d (address_of (phy_at d i p)) → f ≡ attached_phy_of (phy_at d i p)
      → Onward (record { 0 = j }) (record { 0 = f }) ≡ cond (eqb (address_of (phy_at d i p)) came) back (step_of (move_by d i p))
  move_on n e g = rw (ne_eqb (address_of (phy_at d i p)) came (λ h. n (q ∙ h)), e, g)

-- a choice of two steps, as the code says it
pub step-of_cond : (b : Bool) (x y : Stepped) → cond b (step_of x) (step_of y) ≡ step_of (cond b x y)
step-of_cond true x y = refl
step-of_cond false x y = refl

-- what each step does with the pick
module _ (d : Domain) (i came : ℕ) {v : Pick} where
  pub subtractively-at : {p : ℕ} {r : Step} → at p ≡ v → r ≡ cond (eqb (address_of (phy_at d i p)) came) (step_of lost) (step_of (move_by d i p)) → r ≡ step_of (subtractively d i came v)
  unfolding subtractively
  subtractively-at {p} e f = rw (← e) (f ∙ step-of_cond (eqb (address_of (phy_at d i p)) came) lost (move_by d i p))

  pub subtractively-none : nowhere ≡ v → step_of lost ≡ step_of (subtractively d i came v)
  unfolding subtractively
  subtractively-none e = rw (← e)

  pub table_at : (after : Stepped) {p : ℕ} {r : Step} → at p ≡ v → r ≡ cond (eqb (address_of (phy_at d i p)) came) (step_of bad) (step_of (move_by d i p)) → r ≡ step_of (by_table d i came v after)
  unfolding by_table
  table_at after {p} e f = rw (← e) (f ∙ step-of_cond (eqb (address_of (phy_at d i p)) came) bad (move_by d i p))

  pub table_none : (after : Stepped) → nowhere ≡ v → step_of after ≡ step_of (by_table d i came v after)
  unfolding by_table
  table_none after e = rw (← e)

  pub direct-at : (after : Stepped) {p : ℕ} → at p ≡ v → step_of (arriving d i came p) ≡ step_of (directly d i came v after)
  unfolding directly
  direct-at after e = rw (← e)

  pub direct-none : (after : Stepped) → nowhere ≡ v → step_of after ≡ step_of (directly d i came v after)
  unfolding directly
  direct-none after e = rw (← e)

pub step_by : (d : Domain) (words : List ℕ) (i arrival s : ℕ) {b : Bool} → eqb (expander_at d i).address s ≡ b
    → step_of (step d words i arrival s) ≡ step_of (cond b here (direct_step d words i (came_from d i arrival) s))
unfolding step
step_by d words i arrival s q = rw q
