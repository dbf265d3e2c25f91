-- copy_words meets its contract. The loop's invariant: so many of the words stand after the first ones, those changed are counted, and the words after them are as lent.
use mathlib.Core.Path.{refl, ◌∙◌}
use native.Mathlib.Omega.{arith}
use lib.ListN.{length-set}
use Rattle.tables.proofs.lists.GrowingLists.{copy-go}
use Rattle.tables.proofs.filling.WordsChanged.{replaced-none, replaced-more}
use Rattle.tables.proofs.filling.table_filling.copy_words.Goals as goal

pub loop-k-init : goal.loop-k-init
loop-k-init c =
    let at-args = c.args in
    (omega arith, (refl, (refl, (replaced-none at-args.s at-args.part.now, omega arith))))

pub loop-k-preserved : goal.loop-k-preserved
loop-k-preserved c =
    let at-args = c.args in
    (omega arith, (length-set c.loop-k.part c.loop-k.to _ ∙ c.loop-k.invariant.1.0, (copy-go c.loop-k.to c.loop-k.k c.loop-k.part at-args.words.now c.loop-k.invariant.1.1.0 (omega arith) (omega arith), (replaced-more at-args.s c.loop-k.to c.loop-k.sum c.differ-sum.result _ at-args.part.now c.loop-k.part c.loop-k.invariant.1.1.1.0 c.differ-sum.ensures.0 c.differ-sum.ensures.1 (omega arith), omega (arith, c.differ-sum.ensures.1)))))
