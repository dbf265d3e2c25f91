use Prim.Native.Nat.{◌-◌}
use mathlib.Core.Path.{◌≡◌}
use lib.ListN.{length}
use Rattle.wiring.specs.graph.Neighbours.{neighbours}
use Rattle.wiring.specs.graph.RoundCauses.{round_cause}
use Rattle.wiring.specs.graph.Rounds.{SetBelow, members, rounds}
use Rattle.files.specs.Rows.{domain_in}
use Rattle.wiring.proofs.graph.rounds.run_rounds.Given as goal

abbrev pub invariant-loop-i : goal.invariant-loop-i
invariant-loop-i l =
    SetBelow (length (domain_in l.sets.rows.now)) l.next
    × (rounds (round_cause l.kind) (length (domain_in l.sets.rows.now)) (neighbours (domain_in l.sets.rows.now)) (l.count - l.i) (members (length (domain_in l.sets.rows.now)) l.next)
    ≡ rounds (round_cause l.kind) (length (domain_in l.sets.rows.now)) (neighbours (domain_in l.sets.rows.now)) l.count (members (length (domain_in l.sets.rows.now)) l.set))
