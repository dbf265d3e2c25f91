-- number_at meets its contract. The loop's invariant: x is the number in the first k bytes, which is below 256 to the power of k.
use Prim.Native.Nat.{◌+◌}
use mathlib.Core.Path.{refl, sym, ◌∙◌}
use native.Mathlib.Omega.{arith}
use Rattle.frames.proofs.ByteNumbers.{digit, room, number-next}
use Rattle.frames.specs.Bytes.{number_at}
use Rattle.frames.proofs.bytes.number_at.Goals as goal

pub loop-k-init : goal.loop-k-init
unfolding number_at
loop-k-init c = (omega arith, (refl, omega arith))

pub overflow_mul-x : goal.overflow_mul-x
overflow_mul-x c = let h = room (c.loop-k.k + 1) (omega arith) in omega (arith, digit c.loop-k.x 0 c.loop-k.k c.loop-k.invariant.1.1 (omega arith))

pub overflow_add-x : goal.overflow_add-x
overflow_add-x c =
    let h = room (c.loop-k.k + 1) (omega arith) in
    omega (arith, digit c.loop-k.x c.byte_at.result c.loop-k.k c.loop-k.invariant.1.1 c.byte_at.ensures.1)

pub loop-k-preserved : goal.loop-k-preserved
loop-k-preserved c =
    (omega arith, (sym (number-next _ _ _ ∙ rw (← c.loop-k.invariant.1.0, ← c.byte_at.ensures.0)), digit c.loop-k.x c.byte_at.result c.loop-k.k c.loop-k.invariant.1.1 c.byte_at.ensures.1))
