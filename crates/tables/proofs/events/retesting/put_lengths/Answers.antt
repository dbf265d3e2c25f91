-- put_lengths meets its contract. The loop's invariant: the lengths of the own lists of the expanders below i are written.
use Rattle.files.specs.Rows.{domain_in}
use Rattle.tables.proofs.lists.OwnListLoops.{own_count_lem, own_few}
use native.Mathlib.Omega.{arith}
use Rattle.tables.proofs.events.retesting.put_lengths.Goals as goal

pub overflow_cast-counts-in-loop-i : goal.overflow_cast-counts-in-loop-i
overflow_cast-counts-in-loop-i c =
    let at-args = c.args in
    omega (arith, own_count_lem (domain_in at-args.d.now.levels.attached.rows.now) at-args.d.now.lists.now at-args.d.now.owns c.loop-i.i (omega (arith, c.expander_count-n.ensures.0)), own_few at-args.d.now.levels.attached.rows.now c.loop-i.i)
