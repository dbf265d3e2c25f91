-- copy_lists meets its contract. The loop's invariant: the own lists of the first k expanders stand at the front, those changed are counted, and the words after them are as lent.
use mathlib.Core.Path.{refl, ◌∙◌}
use native.Mathlib.Omega.{arith}
use Rattle.files.specs.Rows.{domain_in}
use Rattle.tables.specs.lists.OwnLists.{own_words}
use Rattle.tables.specs.filling.WordsChanged.{copied}
use Rattle.tables.proofs.lists.GrowingLists.{lists-fit, lists-go, lists-end}
use Rattle.tables.proofs.filling.WordsChanged.{replaced-none, replaced-grown}
use Rattle.tables.proofs.filling.table_filling.copy_lists.Goals as goal

pub loop-k-init : goal.loop-k-init
loop-k-init c =
    let at-args = c.args in
    (refl, (omega arith, (refl, replaced-none (copied 0 0) at-args.part.now)))

pub copy_own-s-requires : goal.copy_own-s-requires
copy_own-s-requires c =
    let at_pre = c.requires in
    let at-args = c.args in
    (omega (arith, c.loop-k.invariant.1.1.1.less), omega (arith, lists-fit (own_words (domain_in at-args.d.now.levels.attached.rows.now)) c.loop-k.s.at c.loop-k.k c.loop-k.part at-args.order.now c.loop-k.invariant.1.1.0 (omega arith) (omega arith), at_pre))

pub loop-k-preserved : goal.loop-k-preserved
loop-k-preserved c =
    let at-args = c.args in
    (c.copy_own-s.ensures.0.same ∙ c.loop-k.invariant.0, (omega (arith, c.copy_own-s.ensures.0.fits), (lists-go (own_words (domain_in at-args.d.now.levels.attached.rows.now)) c.loop-k.s.at c.loop-k.k c.loop-k.part at-args.order.now c.loop-k.invariant.1.1.0 c.copy_own-s.ensures.0 (omega arith), replaced-grown (copied 0 0) c.loop-k.s c.copy_own-s.result at-args.part.now c.loop-k.part _ _ c.loop-k.invariant.1.1.1 c.copy_own-s.ensures.1 c.copy_own-s.ensures.0 (omega arith))))

pub returns : goal.returns
returns c =
    let at-args = c.args in
    (record { same = c.loop-k.invariant.0; fits = omega arith; whole = lists-end (own_words (domain_in at-args.d.now.levels.attached.rows.now)) c.loop-k.s.at c.loop-k.k c.loop-k.part at-args.order.now c.loop-k.invariant.1.1.0 (omega arith) }, c.loop-k.invariant.1.1.1)
