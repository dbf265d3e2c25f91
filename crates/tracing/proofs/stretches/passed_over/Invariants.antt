use Prim.Native.Nat.{◌-◌, ◌≤◌}
use mathlib.Core.Path.{◌≡◌}
use mathlib.Core.Bool.{false}
use lib.ListN.{length, take, drop}
use Rattle.tables.specs.WiringDefinitions.{is_in}
use Rattle.tracing.proofs.stretches.passed_over.Given as goal

abbrev pub invariant-loop-r : goal.invariant-loop-r
invariant-loop-r l = (l.r ≤ l.n) × ((l.r ≤ length l.words - l.at) × (is_in l.s (take l.r (drop l.at l.words)) ≡ false))

abbrev pub decreases-loop-r : goal.decreases-loop-r
decreases-loop-r l = l.n - l.r
