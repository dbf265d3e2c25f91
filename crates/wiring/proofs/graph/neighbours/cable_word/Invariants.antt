use lib.ListN.{take}
use Rattle.files.specs.Domain.{expander_at}
use Rattle.files.specs.Rows.{domain_in}
use Rattle.wiring.specs.graph.CableSets.{CableSet}
use Rattle.wiring.proofs.graph.neighbours.cable_word.Given as goal

abbrev pub invariant-loop-p : goal.invariant-loop-p
invariant-loop-p l = CableSet (domain_in l.d.rows.now) (take l.p (expander_at (domain_in l.d.rows.now) l.i.0).phys) l.w
