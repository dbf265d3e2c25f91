-- set_bit writes the byte that bit k stands in with the bit in it.
use Rattle.tables.proofs.events.BitsReplaced.{bit-replaced}
use Rattle.tables.proofs.events.refilling.set_bit.Goals as goal

pub returns : goal.returns
returns c = bit-replaced c.args.s.now c.args.k c.args.b _ c.with_bit.ensures c.requires.0 c.requires.1
