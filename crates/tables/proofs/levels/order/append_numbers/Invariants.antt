use Prim.Native.Nat.{◌+◌}
use mathlib.Core.List.{◌++◌}
use mathlib.Core.Path.{◌≡◌}
use lib.ListN.{length, take, drop}
use Rattle.tables.proofs.levels.order.append_numbers.Given as goal

abbrev pub invariant-loop-k : goal.invariant-loop-k
invariant-loop-k l = (l.to ≡ l.m + l.k) × ((length l.order ≡ length l.initial.order) × (take l.to l.order ++ drop l.k l.more ≡ take l.m l.initial.order ++ l.more))
