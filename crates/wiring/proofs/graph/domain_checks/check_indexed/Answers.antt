-- check_indexed meets its contract: causes 7 to 10, then 11, 12 and 23.
use mathlib.Core.Path.{sym, ◌∙◌, ap}
use Rattle.frames.proofs.RefusalPassedOn.{passed-on}
use Rattle.wiring.specs.phys.Checks.{check_answer}
use Rattle.wiring.proofs.CheckOutcomes.{checked_by}
use Rattle.wiring.proofs.graph.domain_checks.check_indexed.Goals as goal

pub returns-in_err-check_wiring : goal.returns-in_err-check_wiring
returns-in_err-check_wiring c =
    rw (passed-on c.from_residual.result _ c.from_residual.ensures) (sym (checked_by _ _ _ (sym c.check_wiring.ensures ∙ ap (check_answer _) c.in_err-check_wiring.was)))

pub returns : goal.returns
returns c = c.check_links.ensures ∙ sym (checked_by _ _ _ (sym c.check_wiring.ensures ∙ ap (check_answer _) c.in_ok-check_wiring.was))
