-- with_bit takes the bit away by its mask and puts the other in its place.
use Prim.Native.Nat.{ℕ, ◌%◌, ◌<◌}
use mathlib.Core.Path.{sym, subst}
use native.Mathlib.Omega.{arith}
use Rattle.frames.proofs.SetBits.{with_is, with_bit_lt}
use Rattle.frames.proofs.bits.with_bit.Goals as goal

pub overflow_cast-result : goal.overflow_cast-result
overflow_cast-result c =
    let x = c.args in
    let e = with_is x.byte c.weight-m.result (x.b % 2) _ c.weight-m.ensures.0 in
    record { fits = subst (λ (y : ℕ). y < 256) (sym e) (with_bit_lt x.byte (x.k % 8) (x.b % 2) (omega arith) (omega arith) (omega arith)) }

pub returns : goal.returns
returns c = with_is _ _ _ _ c.weight-m.ensures.0
