-- request_rows meets its contract: the judging call's causes by own lists, and the request past them.
use mathlib.Core.Path.{sym, ◌∙◌, ap}
use Rattle.frames.proofs.RefusalPassedOn.{passed-on}
use Rattle.tables.specs.WiringDefinitions.{check_answer}
use Rattle.tables.proofs.CallOutcomes.{judged-room}
use Rattle.tracing.proofs.RequestCauses.{rows-refused, rows-done}
use Rattle.tracing.proofs.calls.request_rows.Goals as goal

pub invariant_of-d : goal.invariant_of-d
invariant_of-d c = record { indexed = (c.judge_rows.ensures.index_left.written (judged-room _ _ _ _ _ (sym c.judge_rows.ensures.result_value ∙ ap (check_answer _) c.in_ok-judge_rows.was))).index }

pub returns-in_err-judge_rows-clause-trace_done : goal.returns-in_err-judge_rows-clause-trace_done
returns-in_err-judge_rows-clause-trace_done c =
    rw (passed-on c.from_residual.result _ c.from_residual.ensures) (rows-refused _ _ _ _ _ _ _ _ (sym c.judge_rows.ensures.result_value ∙ ap (check_answer _) c.in_err-judge_rows.was))

pub returns-clause-trace_done : goal.returns-clause-trace_done
returns-clause-trace_done c =
    rows-done _ _ _ _ _ _ _ _ _ (sym c.judge_rows.ensures.result_value ∙ ap (check_answer _) c.in_ok-judge_rows.was) c.trace_rows.ensures
