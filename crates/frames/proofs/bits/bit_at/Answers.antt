-- bit_at divides bit k's byte by the bit's weight.
use Rattle.frames.proofs.PackedBits.{bit-read, bit-none}
use Rattle.frames.proofs.bits.bit_at.Goals as goal

pub returns-then-j-s : goal.returns-then-j-s
returns-then-j-s c = bit-read _ _ _ c.weight-m.ensures.0

pub returns : goal.returns
returns c = bit-none _ _ c.if-j-s.false
