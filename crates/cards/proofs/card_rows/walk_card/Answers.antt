-- walk_card walks expander after expander; its loop's invariant (`Walking`): what was stored, found and tested, with the expanders to come behind, is that of the whole domain.
use Prim.Native.Nat.{◌+◌, ◌-◌, ◌*◌}
use mathlib.Core.Path.{refl}
use native.Mathlib.Omega.{arith}
use Rattle.files.specs.Rows.{row_words}
use Rattle.frames.specs.Bits.{bits_of}
use Rattle.cards.specs.Card.{domain_on}
use Rattle.frames.proofs.PackedRows.{bits-bits_of}
use Rattle.cards.proofs.RowPuts.{walk-starts, walk-goes, walk_ends}
use Rattle.cards.proofs.CardChecks.{both-checked}
use Rattle.cards.proofs.card_rows.walk_card.Goals as goal

pub loop-i-init : goal.loop-i-init
loop-i-init c =
    let a = c.args in
    (omega arith, walk-starts a.most (bits_of a.card.now) a.rows.now _ a.n c.requires.0.0)

pub loop-i-preserved : goal.loop-i-preserved
loop-i-preserved c =
    let at_pre = c.requires in
    let a = c.args in
    let w = walk-goes a.most (bits_of a.card.now) a.rows.now (domain_on (bits_of a.card.now)) a.n c.loop-i.i c.loop-i.at c.loop-i.rows c.loop-i.used c.loop-i.fine c.loop-i.check c.loop-i.invariant.1
    (bits-bits_of a.card.now) c.unit_from-u.result c.put_row-walk.result c.put_row-walk.new.row (row_words * c.loop-i.i) (row_words * c.loop-i.i + row_words - row_words * c.loop-i.i) c.check_unit-unit.result c.and-check.result (omega arith) c.put_row-walk.ensures c.unit_from-u.ensures.0
    c.check_unit-unit.ensures (both-checked _ _ _ c.and-check.ensures) (omega (arith, at_pre.0.1)) refl (omega arith) (omega (arith, at_pre.1)) in
    (omega (arith, w.1), w.0)

pub returns : goal.returns
returns c =
    let a = c.args in
    walk_ends a.most (bits_of a.card.now) a.rows.now (domain_on (bits_of a.card.now)) a.n c.loop-i.i c.loop-i.at c.loop-i.rows c.loop-i.used c.loop-i.fine c.loop-i.check c.loop-i.invariant.1 c.loop-i-test.false (omega arith)
