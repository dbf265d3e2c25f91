-- mark_from meets its contract: bits one by one up to the first whole byte, whole bytes, and the bits after them are all the bits in a row.
use Prim.Native.Nat.{ℕ, ◌+◌, ◌*◌, ◌/◌, ◌%◌, ◌-◌}
use native.Mathlib.Omega.{arith}
use lib.ListN.{length}
use Rattle.tables.proofs.events.BitsReplaced.{marked-parts}
use Rattle.tables.proofs.events.refilling.mark_from.Goals as goal

pub returns : goal.returns
returns c =
    let at-args = c.args in
    let k : ℕ = (8 - at-args.at % 8) % 8 in let n : ℕ = length at-args.part.now in let m : ℕ = k + (n - k) / 8 * 8 in marked-parts _ _ _ _ at-args.part.now at-args.at k m ((at-args.at + k) / 8) (omega (arith, c.if-part-k.false)) (omega (arith, c.if-part-k.false)) (omega (arith, c.if-part-k.false)) c.mark_each-2.ensures c.mark_bytes.ensures c.mark_each-3.ensures
