-- subtractive_step meets its contract: the phy that (iv) picks is attached to an expander.
use mathlib.Core.Path.{sym, ◌∙◌, ap}
use Rattle.tables.specs.WiringDefinitions.{domain_in}
use Rattle.tracing.specs.Answers.{pick_answer}
use Rattle.tracing.proofs.PhyPicks.{subtracting-far, subtractively-at, subtractively-none}
use Rattle.tracing.proofs.steps.subtractive_step.Goals as goal

pub move_unless-requires : goal.move_unless-requires
move_unless-requires c =
    let a = c.args in
    let e = ap pick_answer (sym c.in-Some.is) ∙ c.pick_subtracting.ensures in
    subtracting-far (domain_in a.d.now.rows.now) a.i.0 e

pub returns-in-Some : goal.returns-in-Some
returns-in-Some c =
    let a = c.args in
    let e = ap pick_answer (sym c.in-Some.is) ∙ c.pick_subtracting.ensures in
    subtractively-at (domain_in a.d.now.rows.now) a.i.0 a.came e c.move_unless.ensures

pub returns-in-None : goal.returns-in-None
returns-in-None c =
    let a = c.args in
    subtractively-none (domain_in a.d.now.rows.now) a.i.0 a.came
    (ap pick_answer (sym c.in-None.is) ∙ c.pick_subtracting.ensures)
