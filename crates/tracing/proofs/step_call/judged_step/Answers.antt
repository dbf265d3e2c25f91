-- judged_step meets its contract: the judging call's causes by own lists, and the step past them.
use mathlib.Core.Path.{sym, ◌∙◌, ap}
use Rattle.frames.proofs.RefusalPassedOn.{passed-on}
use Rattle.tables.specs.WiringDefinitions.{check_answer}
use Rattle.tables.proofs.CallOutcomes.{judged-room}
use Rattle.tracing.specs.Reasons.{step_answer_of}
use Rattle.tracing.proofs.StepRules.{rows_no, rows_yes}
use Rattle.tracing.proofs.step_call.judged_step.Goals as goal

pub invariant_of-d : goal.invariant_of-d
invariant_of-d c = record { indexed = (c.judge_rows.ensures.index_left.written (judged-room _ _ _ _ _ (sym c.judge_rows.ensures.result_value ∙ ap (check_answer _) c.in_ok-judge_rows.was))).index }

pub returns-in_err-judge_rows : goal.returns-in_err-judge_rows
returns-in_err-judge_rows c =
    passed-on c.from_residual.result _ c.from_residual.ensures ∙ ap step_answer_of (rows_no _ _ _ _ _ _ _ (sym c.judge_rows.ensures.result_value ∙ ap (check_answer _) c.in_err-judge_rows.was))

pub returns : goal.returns
returns c =
    c.step_rows.ensures ∙ ap step_answer_of (rows_yes _ _ _ _ _ _ (sym c.judge_rows.ensures.result_value ∙ ap (check_answer _) c.in_ok-judge_rows.was))
