use Prim.Native.Nat.{◌-◌}
use mathlib.Core.Path.{◌≡◌}
use lib.ListN.{length}
use Rattle.wiring.specs.graph.LinkCauses.{joined_in}
use Rattle.files.specs.Lists.{numbers, up_to}
use Rattle.files.specs.Rows.{domain_in}
use Rattle.wiring.proofs.graph.domain_checks.check_joined.Given as goal

abbrev pub invariant-loop-i : goal.invariant-loop-i
invariant-loop-i l = joined_in (numbers l.i (length (domain_in l.sets.rows.now) - l.i)) (domain_in l.sets.rows.now) ≡ joined_in (up_to (length (domain_in l.sets.rows.now))) (domain_in l.sets.rows.now)
