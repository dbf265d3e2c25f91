-- join_ready judges the joined domain in rows, and writes the joined file where it is accepted and fits.
use native.Mathlib.Omega.{arith}
use mathlib.Core.Path.{sym, ◌∙◌, ap}
use lib.ListN.{length}
use Rattle.frames.proofs.RefusalPassedOn.{passed-on}
use Rattle.frames.specs.Refusals.{refusal, refused}
use Rattle.tables.specs.JudgingCall.{judged}
use Rattle.benches.specs.Bytes.{joined_file}
use Rattle.benches.proofs.JoinOutcomes.{join-refused, join-good, not_passed, was-passed, placed_first, placed-second, header_fits, joined-size, joined-refused, joined-short, joined-good, accepted_bound}
use Rattle.benches.proofs.calls.join_ready.Goals as goal

pub overflow_sub-size : goal.overflow_sub-size
overflow_sub-size c =
    let at_pre = c.requires in
    let a = c.args in omega (arith, (placed-second a.setting a.first.now a.i.0 a.p.0 a.second.now a.j.0 a.q.0 (length a.out.now) a.n a.m at_pre.0).within)

pub overflow_add-size : goal.overflow_add-size
overflow_add-size c =
    let at_pre = c.requires in
    let a = c.args in omega (arith, accepted_bound a.setting a.first.now a.n at_pre.0.one, accepted_bound a.setting a.second.now a.m at_pre.0.other)

pub returns-then-out-size : goal.returns-then-out-size
returns-then-out-size c =
    let at_pre = c.requires in
    let a = c.args in let w = was-passed (judged a.setting (joined_file a.first.now a.i.0 a.p.0 a.second.now a.j.0 a.q.0)) (sym c.in_ok-judge_both.was ∙ c.judge_both.ensures) in join-refused _ (refusal 16 0 0) _ _ (joined-short a.setting a.first.now a.i.0 a.p.0 a.second.now a.j.0 a.q.0 (length a.out.now) a.n a.m at_pre.0 w.0 w.1 c.if-out-size.true) (ap refused c.refused.ensures)

pub put_joined-requires : goal.put_joined-requires
put_joined-requires c =
    let at_pre = c.requires in
    let a = c.args in ((placed_first a.setting a.first.now a.i.0 a.p.0 a.second.now a.j.0 a.q.0 (length a.out.now) a.n a.m at_pre.0, placed-second a.setting a.first.now a.i.0 a.p.0 a.second.now a.j.0 a.q.0 (length a.out.now) a.n a.m at_pre.0), (omega (arith, c.if-out-size.false), header_fits a.setting a.first.now a.i.0 a.p.0 a.second.now a.j.0 a.q.0 (length a.out.now) a.n a.m at_pre.0))

pub returns-in_err-judge_both : goal.returns-in_err-judge_both
returns-in_err-judge_both c =
    let at_pre = c.requires in
    let a = c.args in join-refused _ _ _ _ (joined-refused a.setting a.first.now a.i.0 a.p.0 a.second.now a.j.0 a.q.0 (length a.out.now) a.n a.m at_pre.0 _ (not_passed (judged a.setting (joined_file a.first.now a.i.0 a.p.0 a.second.now a.j.0 a.q.0)) _ (sym c.in_err-judge_both.was ∙ c.judge_both.ensures))) (passed-on c.from_residual.result _ c.from_residual.ensures)

pub returns : goal.returns
returns c =
    let at_pre = c.requires in
    let a = c.args in let w = was-passed (judged a.setting (joined_file a.first.now a.i.0 a.p.0 a.second.now a.j.0 a.q.0)) (sym c.in_ok-judge_both.was ∙ c.judge_both.ensures) in join-good _ (joined_file a.first.now a.i.0 a.p.0 a.second.now a.j.0 a.q.0) _ a.out.now _ (joined-good a.setting a.first.now a.i.0 a.p.0 a.second.now a.j.0 a.q.0 (length a.out.now) a.n a.m at_pre.0 w.0 w.1 (omega (arith, c.if-out-size.false))) (sym (joined-size a.setting a.first.now a.i.0 a.p.0 a.second.now a.j.0 a.q.0 (length a.out.now) a.n a.m at_pre.0)) c.put_joined.ensures
