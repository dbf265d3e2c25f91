-- judge_files judges each file in turn, and then tests 21 and 3.
use mathlib.Core.Path.{sym, ◌∙◌, ap}
use Rattle.tables.specs.JudgingCall.{judged}
use Rattle.frames.proofs.RefusalPassedOn.{passed-on}
use Rattle.frames.specs.Refusals.{refused}
use Rattle.benches.proofs.JoinOutcomes.{not_side, side_as, files-first, files-second, files-both, shift_fits, accepted-few}
use Rattle.benches.proofs.sides.judge_files.Goals as goal

pub shifted-requires : goal.shifted-requires
shifted-requires c =
    let a = c.args in shift_fits a.setting a.first.now a.second.now _ _ (side_as a.setting a.first.now a.i.0 a.p.0 _ _ (sym c.in_ok-one.was ∙ c.judge_side.ensures)).one (not_side (judged a.setting a.second.now) a.j.0 a.q.0 _ (sym c.in-Err.is ∙ c.judge_side-2.ensures))

pub count_both-requires : goal.count_both-requires
count_both-requires c =
    let a = c.args in ((accepted-few a.setting a.first.now _ (side_as a.setting a.first.now a.i.0 a.p.0 _ _ (sym c.in_ok-one.was ∙ c.judge_side.ensures)).one), accepted-few a.setting a.second.now _ (side_as a.setting a.second.now a.j.0 a.q.0 _ _ (sym c.in-Ok.is ∙ c.judge_side-2.ensures)).one)

pub returns-in_err-one : goal.returns-in_err-one
returns-in_err-one c =
    let a = c.args in passed-on c.from_residual.result _ c.from_residual.ensures ∙ sym (files-first a.setting a.first.now a.i.0 a.p.0 a.second.now a.j.0 a.q.0 0 _ (not_side (judged a.setting a.first.now) a.i.0 a.p.0 _ (sym c.in_err-one.was ∙ c.judge_side.ensures)))

pub returns-in-Err : goal.returns-in-Err
returns-in-Err c =
    let a = c.args in ap refused c.shifted.ensures ∙ sym (files-second a.setting a.first.now a.i.0 a.p.0 a.second.now a.j.0 a.q.0 0 _ _ (side_as a.setting a.first.now a.i.0 a.p.0 _ _ (sym c.in_ok-one.was ∙ c.judge_side.ensures)).one (not_side (judged a.setting a.second.now) a.j.0 a.q.0 _ (sym c.in-Err.is ∙ c.judge_side-2.ensures)))

pub returns-in-Ok : goal.returns-in-Ok
returns-in-Ok c =
    let a = c.args in c.count_both.ensures ∙ sym (files-both a.setting a.first.now a.i.0 a.p.0 a.second.now a.j.0 a.q.0 0 _ _ _ _ (side_as a.setting a.first.now a.i.0 a.p.0 _ _ (sym c.in_ok-one.was ∙ c.judge_side.ensures)) (side_as a.setting a.second.now a.j.0 a.q.0 _ _ (sym c.in-Ok.is ∙ c.judge_side-2.ensures)))
