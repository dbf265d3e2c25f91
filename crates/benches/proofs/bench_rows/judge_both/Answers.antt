-- judge_both meets its contract: the rows hold the joined domain, and judging it there is judging the joined file.
use Prim.Native.Nat.{◌+◌, ◌*◌}
use mathlib.Core.Path.{sym, ◌∙◌}
use native.Mathlib.Omega.{arith}
use lib.Seq.{length-take-le}
use Rattle.files.specs.Rows.{row_words}
use borrow.Table.Elements.{same_len}
use Rattle.benches.proofs.RowsJudged.{ready_few, ready_place, bench-judged}
use Rattle.benches.proofs.bench_rows.judge_both.Goals as goal

pub read_both-requires : goal.read_both-requires
read_both-requires c =
    let at_pre = c.requires in
    let a = c.args in ((at_pre.0.one, at_pre.0.other), (ready_few a.setting a.first.now a.n a.i.0 a.p.0 a.second.now a.m a.j.0 a.q.0 at_pre.0, at_pre.1.words))

pub overflow_add-e : goal.overflow_add-e
overflow_add-e c =
    let at_pre = c.requires in
    let a = c.args in omega (arith, ready_few a.setting a.first.now a.n a.i.0 a.p.0 a.second.now a.m a.j.0 a.q.0 at_pre.0)

pub slice_bounds-cable_rows-end-2 : goal.slice_bounds-cable_rows-end-2
slice_bounds-cable_rows-end-2 c =
    let at_pre = c.requires in
    sym (length-take-le _ c.read_both.new.rows (omega (arith, at_pre.1.words, c.read_both.auto.rows)))

pub cable_rows-requires : goal.cable_rows-requires
cable_rows-requires c =
    let at_pre = c.requires in
    let a = c.args in ready_place a.setting a.first.now a.n a.i.0 a.p.0 a.second.now a.m a.j.0 a.q.0 at_pre.0

pub slice_bounds-judge_apart-end : goal.slice_bounds-judge_apart-end
slice_bounds-judge_apart-end c =
    let at_pre = c.requires in
    let a = c.args in omega (arith, at_pre.1.words, c.read_both.auto.rows, same_len (row_words * (a.n + a.m)) c.read_both.new.rows c.cable_rows.new.rows c.cable_rows.auto.rows)

pub slice_bounds-judge_apart-end-2 : goal.slice_bounds-judge_apart-end-2
slice_bounds-judge_apart-end-2 c =
    let at_pre = c.requires in
    let a = c.args in sym (length-take-le _ _ (omega (arith, at_pre.1.words, c.read_both.auto.rows, same_len (row_words * (a.n + a.m)) c.read_both.new.rows c.cable_rows.new.rows c.cable_rows.auto.rows)))

pub returns : goal.returns
returns c =
    let at_pre = c.requires in
    let a = c.args in bench-judged a.setting a.first.now a.n a.i.0 a.p.0 a.second.now a.m a.j.0 a.q.0 at_pre.0 (λ k. (c.shared_slice_known-1.given k).fits) (λ k. (c.shared_slice_known-2-1.given k).fits) c.read_both.new.rows c.cable_rows.new.rows _ a.who.now a.low.now _ at_pre.1.slots at_pre.1.phys c.read_both.ensures c.cable_rows.ensures (c.cable_rows.auto.rows ∙ length-take-le _ c.read_both.new.rows (omega (arith, at_pre.1.words, c.read_both.auto.rows))) c.judge_apart.ensures
