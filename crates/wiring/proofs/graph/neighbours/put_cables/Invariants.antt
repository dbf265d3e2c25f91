use Rattle.files.specs.Rows.{domain_in}
use Rattle.wiring.specs.graph.CableSets.{CableSets}
use Rattle.wiring.proofs.graph.neighbours.put_cables.Given as goal

abbrev pub invariant-loop-i : goal.invariant-loop-i
invariant-loop-i l = CableSets (domain_in l.d.rows.now) l.i l.words
