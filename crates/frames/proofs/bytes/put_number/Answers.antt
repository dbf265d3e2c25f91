-- put_number meets its contract. The loop's invariant: the bytes from k on are the lowest ones of x, and `rest` is what is left of x above them.
use Prim.Native.Nat.{◌+◌, ◌-◌, ◌%◌}
use mathlib.Core.Path.{◌∙◌}
use native.Mathlib.Omega.{arith}
use lib.ListN.{take, length-set}
use lib.Seq.{take-set-le}
use Rattle.frames.proofs.ByteNumbers.{shorter, put-turn, put-end}
use Rattle.frames.proofs.bytes.put_number.Goals as goal

pub loop-k-preserved : goal.loop-k-preserved
loop-k-preserved c =
    let a = c.args in (
      omega arith,
      (
        simp length-set c.loop-k.invariant.1.0,
        (
          take-set-le (a.i + (c.loop-k.k - 1)) c.loop-k.s (a.i + (c.loop-k.k - 1)) (c.loop-k.rest % 256) (omega arith) ∙ shorter c.loop-k.s a.s.now (a.i + (c.loop-k.k - 1)) (a.i + c.loop-k.k) (omega arith) c.loop-k.invariant.1.1.0,
          put-turn c.loop-k.s (take a.i a.s.now) _ a.i c.loop-k.k c.loop-k.rest c.loop-k.invariant.1.1.1 (omega arith) (omega arith),
        ),
      ),
    )

pub returns : goal.returns
returns c = put-end c.loop-k.s _ _ c.args.i c.loop-k.k c.loop-k.rest (omega arith) c.loop-k.invariant.1.1.0 c.loop-k.invariant.1.1.1
