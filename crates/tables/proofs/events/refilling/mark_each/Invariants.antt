use Prim.Native.Nat.{◌+◌}
use mathlib.Core.Path.{◌≡◌}
use lib.ListN.{length, drop}
use lib.Seq.{sets}
use Rattle.wiring.specs.FrameDefinitions.{bits_of, zero_bits}
use Rattle.tables.proofs.events.refilling.mark_each.Given as goal

abbrev pub invariant-loop-k : goal.invariant-loop-k
invariant-loop-k l = (length l.bits ≡ length l.initial.bits) × (sets (bits_of l.bits) (l.at + l.k) (zero_bits (drop l.k l.part)) ≡ sets (bits_of l.initial.bits) l.at (zero_bits l.part))
