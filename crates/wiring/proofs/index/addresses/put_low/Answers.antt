-- put_low meets its contract. The loop's invariant: the entries of the expander's phys below p are written, and its attached phys are in its tree.
use mathlib.Core.Path.{◌∙◌}
use Rattle.files.proofs.RowsAsDomain.{phy-held}
use Rattle.wiring.proofs.index.IndexWriting.{lows-start, lows-end}
use Rattle.wiring.proofs.index.IndexKept.{kept-none}
use native.Mathlib.Omega.{arith}
use Rattle.wiring.proofs.index.addresses.put_low.Goals as goal

pub loop-p-init : goal.loop-p-init
loop-p-init c = (lows-start _ _ _ c.requires, kept-none _)

pub add_low-requires : goal.add_low-requires
add_low-requires c = (c.loop-p.invariant.0, (c.phy_in_row-f.ensures ∙ phy-held _ _ _ (omega (arith, c.phy_count-n.ensures.0)), omega (arith, c.phy_count-n.ensures.0)))

pub returns : goal.returns
returns c = (lows-end _ _ _ _ _ c.loop-p.invariant.0 (omega (arith, c.phy_count-n.ensures.1)) (omega (arith, c.phy_count-n.ensures.0)), c.loop-p.invariant.1)
