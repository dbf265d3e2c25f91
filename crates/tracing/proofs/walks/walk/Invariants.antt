use Prim.Native.Nat.{◌-◌}
use mathlib.Core.Path.{◌≡◌}
use lib.ListN.{length, take, drop}
use Rattle.tables.specs.WiringDefinitions.{domain_in}
use Rattle.tables.specs.filling.Entries.{entries, counted}
use Rattle.tracing.specs.Trace.{after, trace_from, request, traced}
use Rattle.tracing.proofs.walks.walk.Given as goal

abbrev pub invariant-loop-k : goal.invariant-loop-k
invariant-loop-k l =
    (length l.passed ≡ length l.initial.passed)
    × (drop l.k l.passed ≡ drop l.k l.initial.passed)
    × (after (take l.k l.passed) (trace_from (l.n - l.k) (domain_in l.d.rows.now) (counted (entries l.words l.bits)) l.i.0 l.q.0 l.s) ≡ traced (domain_in l.d.rows.now) (counted (entries l.words l.bits)) (request l.initial.i.0 l.initial.q.0 l.s))
