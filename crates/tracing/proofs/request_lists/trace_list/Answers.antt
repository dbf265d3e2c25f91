-- trace_list meets its contract: the judging call's causes by own lists, once, and the requests past them.
use mathlib.Core.Path.{sym, ◌∙◌, ap}
use Rattle.frames.proofs.RefusalPassedOn.{passed-on}
use Rattle.tables.specs.WiringDefinitions.{check_answer}
use Rattle.tables.proofs.CallOutcomes.{judged-room}
use Rattle.tracing.proofs.RequestLists.{list-refused, list-judged}
use Rattle.tracing.proofs.request_lists.trace_list.Goals as goal

pub invariant_of-d : goal.invariant_of-d
invariant_of-d c = record { indexed = (c.judge_rows.ensures.index_left.written (judged-room _ _ _ _ _ (sym c.judge_rows.ensures.result_value ∙ ap (check_answer _) c.in_ok-judge_rows.was))).index }

pub returns-in_err-judge_rows-clause-list_traced : goal.returns-in_err-judge_rows-clause-list_traced
returns-in_err-judge_rows-clause-list_traced c =
    rw (passed-on c.from_residual.result _ c.from_residual.ensures) (list-refused _ _ _ _ _ _ _ _ _ (sym c.judge_rows.ensures.result_value ∙ ap (check_answer _) c.in_err-judge_rows.was))

pub returns-clause-list_traced : goal.returns-clause-list_traced
returns-clause-list_traced c =
    list-judged _ _ _ _ _ _ _ _ _ _ (sym c.judge_rows.ensures.result_value ∙ ap (check_answer _) c.in_ok-judge_rows.was) c.answer_list.ensures
