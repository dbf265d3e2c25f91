use Prim.Native.Nat.{◌^◌, ◌≤◌, ◌<◌}
use mathlib.Core.Path.{◌≡◌}
use lib.ListN.{drop}
use Rattle.frames.specs.Bits.{field, zero_bits}
use Rattle.frames.proofs.bits.zero_byte.Given as goal

abbrev pub invariant-loop-k : goal.invariant-loop-k
invariant-loop-k l = (l.k ≤ 8) × ((l.x ≡ field l.k (drop l.at (zero_bits l.words))) × (l.x < 2 ^ l.k))
