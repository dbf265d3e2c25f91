-- zero_byte's loop holds the number of the first k of eight bits.
use native.Mathlib.Omega.{arith}
use Rattle.frames.specs.Bits.{zero_bits}
use Rattle.frames.proofs.DisableBits.{digit, field-more, field-none}
use Rattle.frames.proofs.bits.zero_byte.Goals as goal

pub loop-k-init : goal.loop-k-init
loop-k-init c = (omega arith, (field-none _, omega arith))

pub loop-k-preserved : goal.loop-k-preserved
loop-k-preserved c =
    let a = c.args in
    (omega arith, (field-more _ a.at (zero_bits a.words.now) _ _ c.loop-k.invariant.1.0 c.zero_bit.ensures.0, digit c.loop-k.x c.zero_bit.result c.loop-k.k c.loop-k.invariant.1.1 c.zero_bit.ensures.1))
