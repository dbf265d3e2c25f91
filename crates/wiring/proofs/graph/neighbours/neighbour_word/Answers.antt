-- neighbour_word meets its contract. The loop's invariant: w is the set of the neighbours below j.
use mathlib.Core.Path.{◌≡◌, refl, sym, ◌∙◌, ap}
use lib.ListN.{length}
use Rattle.wiring.specs.graph.Neighbours.{neighbours}
use Rattle.files.specs.Rows.{domain_in}
use Rattle.wiring.proofs.graph.NeighbourWords.{bit-go, bit_skip}
use Rattle.wiring.proofs.graph.WordSets.{word_below, neighbour_word_lem}
use native.Mathlib.Omega.{arith}
use Rattle.wiring.proofs.graph.neighbours.neighbour_word.Goals as goal
use Rattle.wiring.proofs.graph.neighbours.neighbour_word.Goals.{then-are_neighbours, else-are_neighbours}

pub loop-j-init : goal.loop-j-init
unfolding word_below
loop-j-init c = refl

pub loop-j-preserved : goal.loop-j-preserved
loop-j-preserved c =
    let a = c.args in
    let t = neighbours (domain_in a.d.now.rows.now) a.i.0 in
    let q = sym c.are_neighbours.ensures in
    elim c.if-are_neighbours.branch [
      | then-are_neighbours w ↦ w.w-is ∙ bit-go t c.loop-j.w c.loop-j.j c.loop-j.invariant (omega arith) (q ∙ w.if-are_neighbours.true)
      | else-are_neighbours w ↦ w.w-is ∙ bit_skip t c.loop-j.w c.loop-j.j c.loop-j.invariant (q ∙ w.if-are_neighbours.false)
    ]

pub returns : goal.returns
returns c =
    let a = c.args in
    let d = domain_in a.d.now.rows.now in
    let e : c.loop-j.j ≡ length d = omega arith in
    c.loop-j.invariant ∙ ap (word_below (neighbours d a.i.0)) e ∙ sym (neighbour_word_lem d a.i.0)
