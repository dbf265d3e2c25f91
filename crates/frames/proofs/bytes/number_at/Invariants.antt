use Prim.Native.Nat.{◌*◌, ◌^◌, ◌≤◌, ◌<◌}
use mathlib.Core.Path.{◌≡◌}
use Rattle.frames.specs.Bytes.{number_at}
use Rattle.frames.proofs.bytes.number_at.Given as goal

abbrev pub invariant-loop-k : goal.invariant-loop-k
invariant-loop-k l = (l.k ≤ l.width) × ((l.x ≡ number_at l.s l.i l.k) × (l.x < 2 ^ (8 * l.k)))
