-- may_arrive is the definition's chain of tests: the expander, then the arrival phy.
use Prim.Native.Nat.{ℕ}
use mathlib.Core.Bool.{not}
use mathlib.Core.Path.{refl, sym, ◌∙◌, ap}
use native.Mathlib.Omega.{arith}
use lib.Dec.{eqb}
use lib.ListN.{length}
use borrow.Author.Tests.{eq-eqb, ne_eqb, lt-ltb, le-ltb}
use Rattle.tables.specs.WiringDefinitions.{Domain, domain_in, type_of}
use Rattle.tracing.proofs.StepRules.{step_allowed-by}
use Rattle.tracing.proofs.step_call.may_arrive.Goals as goal

pub returns-then-expander_count-i : goal.returns-then-expander_count-i
returns-then-expander_count-i c =
    let a = c.args in
    let d : Domain = domain_in a.rows.now in
    sym (step_allowed-by d a.i.0 a.arrival.0 (le-ltb a.i.0 (length d) (omega arith)) refl refl)

pub returns-then-arrival-eq255 : goal.returns-then-arrival-eq255
returns-then-arrival-eq255 c =
    let a = c.args in
    let d : Domain = domain_in a.rows.now in
    sym (step_allowed-by d a.i.0 a.arrival.0 (lt-ltb a.i.0 (length d) (omega arith)) (eq-eqb a.arrival.0 255 c.if-arrival-eq255.true) refl)

pub returns : goal.returns
returns c =
    let a = c.args in
    let d : Domain = domain_in a.rows.now in
    ap (λ (x : ℕ). not (eqb x 0)) (c.phy_type.ensures ∙ ap type_of c.phy_at.ensures)
    ∙ sym (step_allowed-by d a.i.0 a.arrival.0 (lt-ltb a.i.0 (length d) (omega arith)) (ne_eqb a.arrival.0 255 c.if-arrival-eq255.false) refl)
