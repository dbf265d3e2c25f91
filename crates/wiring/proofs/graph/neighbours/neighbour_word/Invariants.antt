use mathlib.Core.Path.{◌≡◌}
use Rattle.wiring.specs.graph.Neighbours.{neighbours}
use Rattle.files.specs.Rows.{domain_in}
use Rattle.wiring.proofs.graph.WordSets.{word_below}
use Rattle.wiring.proofs.graph.neighbours.neighbour_word.Given as goal

abbrev pub invariant-loop-j : goal.invariant-loop-j
invariant-loop-j l = l.w ≡ word_below (neighbours (domain_in l.d.rows.now) l.i.0) l.j
