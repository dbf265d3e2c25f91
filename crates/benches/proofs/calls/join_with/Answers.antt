-- join_with meets its contract: there is room for what both files state.
use Prim.Native.Nat.{ℕ}
use native.Mathlib.Omega.{arith}
use lib.ListN.{length-replicate}
use Rattle.benches.proofs.calls.join_with.Goals as goal

pub join_in-requires : goal.join_in-requires
join_in-requires g c =
    let room = c.requires in
    record { words = omega (arith, length-replicate {A = ℕ} g.row.ROWS 0, room.rows); slots = omega (arith, length-replicate {A = ℕ} g.row.SLOTS 0, room.slots); phys = omega (arith, length-replicate {A = ℕ} g.row.PHYS 0, room.phys) }
