-- far_word meets its contract. The loop's invariant: w is the set of the phys below p.
use Rattle.wiring.proofs.graph.CableSets.{far_none, far-next}
use native.Mathlib.Omega.{arith}
use Rattle.wiring.proofs.graph.neighbours.cable_word.Goals as goal

pub loop-p-init : goal.loop-p-init
loop-p-init c = far_none _

pub loop-p-preserved : goal.loop-p-preserved
loop-p-preserved c =
    far-next _ _ c.loop-p.p _ _ c.loop-p.invariant c.cable_bit-w.ensures (omega (arith, c.phy_count-n.ensures.0))
