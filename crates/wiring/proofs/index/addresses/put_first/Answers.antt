-- put_first meets its contract. The loop's invariant: the entries of the expander's phys below p are written, and its devices are in the tree.
use mathlib.Core.Path.{◌∙◌}
use Rattle.files.proofs.RowsAsDomain.{phy-held}
use Rattle.wiring.proofs.index.IndexWriting.{phys-end}
use native.Mathlib.Omega.{arith}
use Rattle.wiring.proofs.index.addresses.put_first.Goals as goal

pub add_first-requires : goal.add_first-requires
add_first-requires c = (c.loop-p.invariant.0, (c.phy_in_row-f.ensures ∙ phy-held _ _ _ (omega (arith, c.phy_count-n.ensures.0)), omega (arith, c.phy_count-n.ensures.0)))

pub returns : goal.returns
returns c =
    let at_pre = c.requires in
    (phys-end _ _ _ _ _ _ at_pre.1 (omega (arith, c.phy_count-n.ensures.1)) (omega (arith, c.phy_count-n.ensures.0)) c.loop-p.invariant.0, c.loop-p.invariant.1)
