-- judge_rows meets its contract: cause 14 by own lists after causes 7 to 12 and 23.
use mathlib.Core.Path.{sym, ◌∙◌, ap}
use Rattle.frames.proofs.RefusalPassedOn.{passed-on}
use Rattle.wiring.specs.phys.Checks.{check_answer}
use Rattle.wiring.proofs.CheckOutcomes.{room_checked}
use Rattle.tables.proofs.CallOutcomes.{own_checked}
use Rattle.tables.proofs.calls.judge_rows.Goals as goal

pub invariant_of-d : goal.invariant_of-d
invariant_of-d c =
    record { indexed = (c.check_domain.ensures.index_left.written (room_checked _ _ _ _ _ (sym c.check_domain.ensures.result_value ∙ ap (check_answer _) c.in_ok-check_domain.was))).index }

pub returns-in_err-check_domain : goal.returns-in_err-check_domain
returns-in_err-check_domain c =
    record {
      result_value = ap (check_answer _) (passed-on c.from_residual.result _ c.from_residual.ensures) ∙ sym (own_checked _ _ _ _ _ (sym c.check_domain.ensures.result_value ∙ ap (check_answer _) c.in_err-check_domain.was));
      index_left = c.check_domain.ensures.index_left;
    }

pub returns : goal.returns
returns c =
    record {
      result_value = c.first_overlong.ensures ∙ sym (own_checked _ _ _ _ _ (sym c.check_domain.ensures.result_value ∙ ap (check_answer _) c.in_ok-check_domain.was));
      index_left = c.check_domain.ensures.index_left;
    }
