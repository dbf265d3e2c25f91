-- mark_zeros puts byte after byte; its loop's invariant: the bytes with those still to come put behind are the marked bytes.
use native.Mathlib.Omega.{arith}
use mathlib.Core.Path.{refl, sym}
use lib.ListN.{length-set}
use Rattle.frames.specs.Bits.{zero_bits}
use Rattle.frames.proofs.DisableBits.{mark-start, mark-turn, mark-end, marked-short}
use Rattle.frames.proofs.bits.mark_zeros.Goals as goal

pub returns-then-bits-n : goal.returns-then-bits-n
returns-then-bits-n c = sym (marked-short c.args.words.now c.args.bits.now (omega (arith, c.bytes_for-n.ensures)))

pub loop-i-init : goal.loop-i-init
loop-i-init c = (omega arith, (c.bytes_for-n.ensures, (refl, mark-start c.args.words.now c.args.bits.now _ c.bytes_for-n.ensures (omega arith))))

pub loop-i-preserved : goal.loop-i-preserved
loop-i-preserved c =
    let at-args = c.args in
    (omega arith, (c.loop-i.invariant.1.0, (simp length-set c.loop-i.invariant.1.1.0, mark-turn _ c.loop-i.bits (zero_bits at-args.words.now) c.loop-i.i _ _ (omega arith) c.loop-i.invariant.1.1.1 c.byte_of_eight.ensures)))

pub returns : goal.returns
returns c =
    let at-args = c.args in
    mark-end _ c.loop-i.bits (zero_bits at-args.words.now) c.loop-i.i _ c.loop-i-test.false c.loop-i.invariant.1.1.1
