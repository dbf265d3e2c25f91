-- join_in judges both files, and joins those that can be joined.
use mathlib.Core.Path.{sym, ◌∙◌}
use lib.ListN.{length}
use Rattle.frames.proofs.RefusalPassedOn.{passed-on}
use Rattle.benches.proofs.JoinOutcomes.{join-refused, files-refused, files_ready, ready_room}
use Rattle.benches.proofs.calls.join_in.Goals as goal

pub join_ready-requires : goal.join_ready-requires
join_ready-requires c =
    let at_pre = c.requires in
    let a = c.args in let r = files_ready a.setting a.first.now a.i.0 a.p.0 a.second.now a.j.0 a.q.0 (length a.out.now) _ _ (sym c.judge_files.ensures ∙ c.in_ok-counts.was) in (r, ready_room a.setting a.first.now a.i.0 a.p.0 a.second.now a.j.0 a.q.0 (length a.out.now) _ _ r a.rows.now _ a.who.now _ a.low.now _ c.judge_files.auto.rows c.judge_files.auto.who c.judge_files.auto.low at_pre)

pub returns-in_err-counts : goal.returns-in_err-counts
returns-in_err-counts c =
    let a = c.args in join-refused _ _ _ _ (files-refused a.setting a.first.now a.i.0 a.p.0 a.second.now a.j.0 a.q.0 (length a.out.now) _ (sym c.judge_files.ensures ∙ c.in_err-counts.was)) (passed-on c.from_residual.result _ c.from_residual.ensures)
