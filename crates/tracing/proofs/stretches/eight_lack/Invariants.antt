use Prim.Native.Nat.{◌+◌, ◌-◌}
use mathlib.Core.Path.{◌≡◌}
use lib.ListN.{take, drop}
use Rattle.tables.specs.WiringDefinitions.{is_in}
use Rattle.tracing.proofs.stretches.eight_lack.Given as goal

abbrev pub invariant-loop-j : goal.invariant-loop-j
invariant-loop-j l = is_in l.s (take (8 - l.j) (drop (l.k + l.j) l.words)) ≡ is_in l.s (take 8 (drop l.k l.words))
