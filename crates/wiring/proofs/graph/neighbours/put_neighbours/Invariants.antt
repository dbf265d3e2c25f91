use Prim.Native.Nat.{◌*◌, ◌≤◌}
use mathlib.Core.List.{◌++◌, map}
use mathlib.Core.Path.{◌≡◌}
use lib.ListN.{drop}
use Rattle.files.specs.Lists.{numbers}
use Rattle.wiring.specs.graph.Neighbours.{neighbour_word, bits_in}
use Rattle.files.specs.Rows.{domain_in}
use Rattle.wiring.proofs.graph.neighbours.put_neighbours.Given as goal

abbrev pub invariant-loop-i : goal.invariant-loop-i
invariant-loop-i l =
    (l.sum ≤ 64 * l.i)
    × (l.sum ≡ bits_in (map (neighbour_word (domain_in l.d.rows.now)) (numbers 0 l.i)))
    × (l.words ≡ map (neighbour_word (domain_in l.d.rows.now)) (numbers 0 l.i) ++ drop l.i l.initial.words)
