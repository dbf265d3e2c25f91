use lib.ListN.{length}
use mathlib.Core.Path.{◌≡◌}
use Rattle.wiring.proofs.graph.WordSets.{word_below}
use Rattle.wiring.specs.graph.Neighbours.{neighbours}
use Rattle.wiring.specs.graph.RoundCauses.{round_cause}
use Rattle.wiring.specs.graph.Rounds.{members, round_test}
use Rattle.files.specs.Rows.{domain_in}
use Rattle.wiring.proofs.graph.rounds.run_round.Given as goal

abbrev pub invariant-loop-v : goal.invariant-loop-v
invariant-loop-v l =
    l.next ≡ word_below (round_test (round_cause l.kind) (length (domain_in l.sets.rows.now)) (neighbours (domain_in l.sets.rows.now)) (members (length (domain_in l.sets.rows.now)) l.set)) l.v
