-- judge_in meets its contract: the rows that the file is read into are its domain, and there is room for the entries.
use mathlib.Core.Path.{sym, ◌∙◌, ap}
use lib.Seq.{length-take-le}
use Rattle.wiring.specs.FrameDefinitions.{good}
use Rattle.frames.proofs.RefusalPassedOn.{passed-on}
use Rattle.wiring.specs.phys.Checks.{check_answer}
use Rattle.wiring.proofs.FileRows.{opened_as, opened-fits}
use Rattle.tables.proofs.CallOutcomes.{judge-refused, judge-by}
use Rattle.tables.proofs.lists.LevelListsByOwn.{judged_own}
use Rattle.tables.proofs.calls.judge_in.Goals as goal

pub slice_bounds-judge_rows-end : goal.slice_bounds-judge_rows-end
slice_bounds-judge_rows-end c =
    let at_pre = c.requires in
    opened-fits _ _ _ _ _ _ at_pre.rows c.read_domain.ensures c.in_ok-n.was c.read_domain.auto.rows

pub returns-in_err-n : goal.returns-in_err-n
returns-in_err-n c =
    let at_pre = c.requires in
    (passed-on c.from_residual.result _ c.from_residual.ensures) ∙ judge-refused _ _ _ (opened_as _ _ _ _ _ _ at_pre.rows c.read_domain.ensures c.in_err-n.was)

pub returns-in_err-judge_rows : goal.returns-in_err-judge_rows
returns-in_err-judge_rows c =
    let at_pre = c.requires in
    let o = opened_as _ _ _ _ _ _ at_pre.rows c.read_domain.ensures c.in_ok-n.was in
    (passed-on c.from_residual-in_err-judge_rows.result _ c.from_residual-in_err-judge_rows.ensures) ∙ judge-by _ _ _ _ o.0 (sym (judged_own _ _ _ _ _ o.0 (at_pre.index _ o.0)) ∙ sym c.judge_rows.ensures.result_value ∙ ap (check_answer _) c.in_err-judge_rows.was)

pub returns : goal.returns
returns c =
    let at_pre = c.requires in
    let o = opened_as _ _ _ _ _ _ at_pre.rows c.read_domain.ensures c.in_ok-n.was in
    ap good o.1.1 ∙ judge-by _ _ _ _ o.0 (sym (judged_own _ _ _ _ _ o.0 (at_pre.index _ o.0)) ∙ sym c.judge_rows.ensures.result_value ∙ ap (check_answer _) c.in_ok-judge_rows.was)

pub slice_bounds-judge_rows-end-2 : goal.slice_bounds-judge_rows-end-2
slice_bounds-judge_rows-end-2 c =
    let at_pre = c.requires in
    sym (length-take-le _ c.read_domain.new.rows (opened-fits _ _ _ _ _ _ at_pre.rows c.read_domain.ensures c.in_ok-n.was c.read_domain.auto.rows))
