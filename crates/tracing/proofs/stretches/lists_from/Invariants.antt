use Prim.Native.Nat.{◌+◌, ◌-◌, ◌≤◌, ◌<◌}
use mathlib.Core.Path.{◌≡◌}
use lib.ListN.{length, take, drop}
use Rattle.tables.specs.WiringDefinitions.{is_in}
use Rattle.tables.specs.filling.Entries.{entries, counted}
use Rattle.tracing.proofs.stretches.lists_from.Given as goal

abbrev pub invariant-loop-j : goal.invariant-loop-j
invariant-loop-j l =
    (0 < l.j → l.at + l.j ≤ length l.words)
    × (is_in l.s (take (l.fn.n - l.j) (drop (l.at + l.j) (counted (entries l.words l.bits)))) ≡ is_in l.s (take l.fn.n (drop l.at (counted (entries l.words l.bits)))))
