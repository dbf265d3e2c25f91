-- check_expander meets its contract: the expander's unit, and then its phys from where the unit ends.
use mathlib.Core.Path.{sym, ◌∙◌}
use Rattle.frames.proofs.RefusalPassedOn.{passed-on}
use Rattle.files.specs.UnitAnswers.{expander_checked}
use Rattle.files.proofs.file.check_expander.Goals as goal

pub returns-in_err-unit : goal.returns-in_err-unit
unfolding expander_checked
returns-in_err-unit c = simp (sym c.expander_unit.ensures ∙ c.in_err-unit.was, passed-on c.from_residual.result _ c.from_residual.ensures)

pub returns-in_err-next : goal.returns-in_err-next
unfolding expander_checked
returns-in_err-next c =
    let e = sym c.expander_unit.ensures ∙ c.in_ok-unit.was in
    let p = sym c.check_phys.ensures ∙ c.in_err-next.was in
    simp (e, p, passed-on c.from_residual-in_err-next.result _ c.from_residual-in_err-next.ensures)

pub returns : goal.returns
unfolding expander_checked
returns c =
    let e = sym c.expander_unit.ensures ∙ c.in_ok-unit.was in
    let p = sym c.check_phys.ensures ∙ c.in_ok-next.was in
    simp (e, p)
