-- subtractive_reason is the definition's choice over the phy that (iv) picks.
use mathlib.Core.Path.{sym, ◌∙◌, ap}
use borrow.Author.Tests.{eq-eqb, ne_eqb}
use Rattle.tables.specs.WiringDefinitions.{Domain, domain_in, address_of}
use Rattle.tracing.specs.Answers.{pick_answer}
use Rattle.tracing.proofs.StepRules.{subtraction_at, subtraction_none}
use Rattle.tracing.proofs.reasons.subtractive_reason.Goals as goal

pub returns-then-phy_address-came : goal.returns-then-phy_address-came
returns-then-phy_address-came c =
    let at-args = c.args in
    let d : Domain = domain_in at-args.rows.now in
    let e = ap pick_answer (sym c.in-Some.is) ∙ c.pick_subtracting.ensures in
    c.told.ensures ∙ subtraction_at d at-args.i.0 at-args.came e (eq-eqb _ _ (sym (c.phy_address.ensures ∙ ap address_of c.phy_at.ensures) ∙ c.if-phy_address-came.true))

pub returns-else-phy_address-came : goal.returns-else-phy_address-came
returns-else-phy_address-came c =
    let at-args = c.args in
    let d : Domain = domain_in at-args.rows.now in
    let e = ap pick_answer (sym c.in-Some.is) ∙ c.pick_subtracting.ensures in
    c.told-in-Some.ensures ∙ subtraction_at d at-args.i.0 at-args.came e (ne_eqb _ _ (λ f. c.if-phy_address-came.false ((c.phy_address.ensures ∙ ap address_of c.phy_at.ensures) ∙ f)))

pub returns-in-None : goal.returns-in-None
returns-in-None c =
    let d : Domain = domain_in c.args.rows.now in
    c.told-in-None.ensures ∙ subtraction_none d c.args.i.0 c.args.came (ap pick_answer (sym c.in-None.is) ∙ c.pick_subtracting.ensures)
