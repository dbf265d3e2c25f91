use Prim.Native.Nat.{◌+◌, ◌-◌}
use mathlib.Core.Path.{◌≡◌}
use lib.ListN.{take, drop}
use Rattle.tables.specs.filling.Entries.{entries, counted}
use Rattle.tracing.specs.Reasons.{index_of}
use Rattle.tracing.proofs.stretches.index_of.Given as goal

abbrev pub invariant-loop-k : goal.invariant-loop-k
invariant-loop-k l = l.k + index_of l.s (take (l.fn.n - l.k) (drop (l.at + l.k) (counted (entries l.words l.bits)))) ≡ index_of l.s (take l.fn.n (drop l.at (counted (entries l.words l.bits))))
