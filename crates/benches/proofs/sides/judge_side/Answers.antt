-- judge_side meets its contract: the rows that the file is read into are its domain, and there is room for the entries.
use mathlib.Core.Path.{sym, ◌∙◌, ap}
use lib.Seq.{length-take-le}
use Rattle.frames.proofs.RefusalPassedOn.{passed-on}
use Rattle.frames.specs.Refusals.{Result, then}
use Rattle.files.specs.Domain.{Domain}
use Rattle.wiring.specs.phys.Checks.{check_answer}
use Rattle.wiring.proofs.FileRows.{opened_as, opened-fits}
use Rattle.tables.proofs.lists.LevelListsByOwn.{judged_own}
use Rattle.benches.specs.SidesFound.{side_of}
use Rattle.benches.proofs.JoinOutcomes.{side_room, side_refused, side_good, judged-by}
use Rattle.benches.proofs.sides.judge_side.Goals as goal

pub slice_bounds-judge_rows-end : goal.slice_bounds-judge_rows-end
slice_bounds-judge_rows-end c =
    let at_pre = c.requires in
    let a = c.args in (opened-fits _ _ _ _ _ _ (side_room a.setting a.file.now a.rows.now a.who.now a.low.now at_pre).rows c.read_domain.ensures c.in_ok-n.was c.read_domain.auto.rows)

pub slice_bounds-judge_rows-end-2 : goal.slice_bounds-judge_rows-end-2
slice_bounds-judge_rows-end-2 c =
    let at_pre = c.requires in
    let a = c.args in sym (length-take-le _ c.read_domain.new.rows (opened-fits _ _ _ _ _ _ (side_room a.setting a.file.now a.rows.now a.who.now a.low.now at_pre).rows c.read_domain.ensures c.in_ok-n.was c.read_domain.auto.rows))

pub slice_bounds-is_free-end : goal.slice_bounds-is_free-end
slice_bounds-is_free-end c =
    let at_pre = c.requires in
    let a = c.args in (opened-fits _ _ _ _ _ _ (side_room a.setting a.file.now a.rows.now a.who.now a.low.now at_pre).rows c.read_domain.ensures c.in_ok-n.was c.read_domain.auto.rows)

pub slice_bounds-is_free-end-2 : goal.slice_bounds-is_free-end-2
slice_bounds-is_free-end-2 c =
    let at_pre = c.requires in
    let a = c.args in sym (length-take-le _ c.read_domain.new.rows (opened-fits _ _ _ _ _ _ (side_room a.setting a.file.now a.rows.now a.who.now a.low.now at_pre).rows c.read_domain.ensures c.in_ok-n.was c.read_domain.auto.rows))

pub returns-in_err-n : goal.returns-in_err-n
returns-in_err-n c =
    let at_pre = c.requires in
    let a = c.args in passed-on c.from_residual.result _ c.from_residual.ensures ∙ side_refused a.setting a.file.now a.i.0 a.p.0 _ (opened_as _ _ _ _ _ _ (side_room a.setting a.file.now a.rows.now a.who.now a.low.now at_pre).rows c.read_domain.ensures c.in_err-n.was)

pub returns-in_err-judge_rows : goal.returns-in_err-judge_rows
returns-in_err-judge_rows c =
    let at_pre = c.requires in
    let a = c.args in let o = opened_as _ _ _ _ _ _ (side_room a.setting a.file.now a.rows.now a.who.now a.low.now at_pre).rows c.read_domain.ensures c.in_ok-n.was in passed-on c.from_residual-in_err-judge_rows.result _ c.from_residual-in_err-judge_rows.ensures ∙ sym (ap (λ (x : Result Domain). then x (side_of a.i.0 a.p.0)) (judged-by a.setting a.file.now _ _ o.0 (sym (judged_own _ _ _ _ _ o.0 ((side_room a.setting a.file.now a.rows.now a.who.now a.low.now at_pre).index _ o.0)) ∙ sym c.judge_rows.ensures.result_value ∙ ap (check_answer _) c.in_err-judge_rows.was)))

pub returns : goal.returns
returns c =
    let at_pre = c.requires in
    let a = c.args in let o = opened_as _ _ _ _ _ _ (side_room a.setting a.file.now a.rows.now a.who.now a.low.now at_pre).rows c.read_domain.ensures c.in_ok-n.was in side_good a.setting a.file.now a.i.0 a.p.0 _ _ _ (judged-by a.setting a.file.now _ _ o.0 (sym (judged_own _ _ _ _ _ o.0 ((side_room a.setting a.file.now a.rows.now a.who.now a.low.now at_pre).index _ o.0)) ∙ sym c.judge_rows.ensures.result_value ∙ ap (check_answer _) c.in_ok-judge_rows.was)) o.1.1 c.is_free.ensures
