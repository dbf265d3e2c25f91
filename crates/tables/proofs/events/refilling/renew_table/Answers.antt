-- renew_table meets its contract: the words are filled, those changed counted, and then their bits are set.
use Prim.Native.Nat.{◌-◌}
use mathlib.Core.Path.{◌∙◌}
use native.Mathlib.Omega.{arith}
use lib.ListN.{drop, length-drop}
use lib.Seq.{length-take-le}
use Rattle.files.specs.Rows.{domain_in}
use Rattle.tables.specs.lists.PreparedLists.{own_words_of_order}
use Rattle.tables.proofs.events.TablesRewritten.{renew_words, renew_changed, renew_bits}
use Rattle.tables.proofs.events.refilling.renew_table.Goals as goal

pub returns : goal.returns
returns c =
    let at-args = c.args in
    let at_pre = c.requires in
    (renew_words at-args.words.now at-args.at at-args.to at_pre.1.0 at_pre.1.1.0 _ (own_words_of_order (domain_in at-args.d.now.levels.attached.rows.now) at-args.i.0 at-args.p.0) c.fill_table-n.ensures.0, (renew_bits at-args.words.now at-args.at at-args.to at_pre.1.0 at_pre.1.1.0 _ (own_words_of_order (domain_in at-args.d.now.levels.attached.rows.now) at-args.i.0 at-args.p.0) c.fill_table-n.ensures.0 at-args.bits.now _ c.mark_from.ensures, (c.fill_table-n.ensures.1.0 ∙ renew_changed at-args.words.now at-args.at at-args.to at_pre.1.0 at_pre.1.1.0 _ (own_words_of_order (domain_in at-args.d.now.levels.attached.rows.now) at-args.i.0 at-args.p.0) c.fill_table-n.ensures.0, omega (arith, c.fill_table-n.ensures.1.1, length-take-le (at-args.to - at-args.at) (drop at-args.at at-args.words.now) (omega (arith, length-drop at-args.at at-args.words.now))))))
