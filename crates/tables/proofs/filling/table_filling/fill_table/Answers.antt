-- fill_table meets its contract: the own lists of the order are copied, and zeros fill the rest; the words that the first changes lie before those of the second.
use mathlib.Core.Path.{refl}
use native.Mathlib.Omega.{arith}
use Rattle.files.specs.Rows.{domain_in}
use Rattle.tables.proofs.filling.FilledTable.{filled-room, order-filled}
use Rattle.tables.proofs.filling.WordsChanged.{all-counted}
use Rattle.tables.proofs.filling.table_filling.fill_table.Goals as goal

pub copy_lists-s-requires : goal.copy_lists-s-requires
copy_lists-s-requires c =
    let at_pre = c.requires in
    let at-args = c.args in
    filled-room (domain_in at-args.d.now.levels.attached.rows.now) at-args.x.0 at-args.p.0 at_pre

pub returns : goal.returns
returns c =
    let at-args = c.args in
    let at_pre = c.requires in
    (order-filled (domain_in at-args.d.now.levels.attached.rows.now) at-args.x.0 at-args.p.0 at_pre c.copy_lists-s.ensures.0 c.clear_from.ensures.0 refl, (all-counted c.copy_lists-s.result c.clear_from.result at-args.part.now _ _ _ c.copy_lists-s.ensures.1 c.clear_from.ensures.0 c.clear_from.ensures.1.0 (omega (arith, c.copy_lists-s.ensures.0.same, c.copy_lists-s.ensures.0.fits)), omega (arith, c.clear_from.ensures.1.1, c.copy_lists-s.ensures.1.less, c.copy_lists-s.ensures.0.same)))
