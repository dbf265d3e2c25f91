-- clear_from meets its contract. The loop's invariant: the words from the first place to i are zero, those changed are counted, and the others are as lent.
use mathlib.Core.Path.{refl, ◌∙◌}
use native.Mathlib.Omega.{arith}
use lib.ListN.{length-set}
use Rattle.tables.proofs.lists.GrowingLists.{fill_start, fill-turn}
use Rattle.tables.proofs.filling.WordsChanged.{replaced-none, replaced-more}
use Rattle.tables.proofs.filling.table_filling.clear_from.Goals as goal

pub loop-i-init : goal.loop-i-init
loop-i-init c =
    let at-args = c.args in
    (refl, (fill_start at-args.s.at at-args.part.now, (replaced-none at-args.s at-args.part.now, omega arith)))

pub loop-i-preserved : goal.loop-i-preserved
loop-i-preserved c =
    let at-args = c.args in
    (length-set c.loop-i.part c.loop-i.i _ ∙ c.loop-i.invariant.0, (fill-turn at-args.s.at c.loop-i.i at-args.part.now c.loop-i.part c.loop-i.invariant.1.0 (omega arith) (omega arith), (replaced-more at-args.s c.loop-i.i c.loop-i.sum c.differ-sum.result 0 at-args.part.now c.loop-i.part c.loop-i.invariant.1.1.0 c.differ-sum.ensures.0 c.differ-sum.ensures.1 (omega arith), omega (arith, c.differ-sum.ensures.1))))
