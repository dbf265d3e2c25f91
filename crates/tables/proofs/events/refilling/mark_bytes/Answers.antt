-- mark_bytes meets its contract: whole bytes of disable bits are those bits in a row.
use Rattle.tables.proofs.events.BitsReplaced.{marked-part}
use Rattle.tables.proofs.events.refilling.mark_bytes.Goals as goal

pub returns : goal.returns
returns c =
    let at-args = c.args in
    let at_pre = c.requires in
    marked-part at-args.bits.now at-args.part.now _ at-args.j at_pre.0 at_pre.1 c.mark_zeros.ensures
