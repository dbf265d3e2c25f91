use Prim.Native.Nat.{◌-◌}
use mathlib.Core.Path.{◌≡◌}
use Rattle.files.specs.Rows.{domain_in}
use Rattle.benches.specs.BenchRows.{repeated_from, repeated}
use Rattle.benches.proofs.repeats.first_repeated.Given as goal

abbrev pub invariant-loop-k : goal.invariant-loop-k
invariant-loop-k l = repeated_from (domain_in l.rows) (l.n - l.k) l.k ≡ repeated (domain_in l.rows)
