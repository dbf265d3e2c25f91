-- add_low meets its contract: an attached phy goes into the tree of its expander, and the lowest with its address is written.
use mathlib.Core.Path.{sym, ◌∙◌}
use Rattle.wiring.proofs.index.IndexWriting.{phy-few, here-few, low-none, low-can, low-next}
use Rattle.wiring.proofs.index.IndexKept.{kept-none, low-kept}
use native.Mathlib.Omega.{arith}
use Rattle.wiring.proofs.index.addresses.add_low.Goals as goal

pub returns-then-phy_type-eq0 : goal.returns-then-phy_type-eq0
returns-then-phy_type-eq0 c = (low-none _ _ _ _ c.requires.1.0 c.requires.1.1 _ _ c.requires.0 (sym c.phy_type.ensures ∙ c.if-phy_type-eq0.true), kept-none _)

pub add-r-requires : goal.add-r-requires
add-r-requires c = rw c.phy_address.ensures (low-can _ _ _ _ c.requires.1.0 c.requires.1.1 _ _ c.requires.0 (λ z. c.if-phy_type-eq0.false (c.phy_type.ensures ∙ z)))

pub bounds-low-k : goal.bounds-low-k
bounds-low-k c = omega (arith, c.requires.0.phys, phy-few _ _ _ _ c.requires.1.0 c.requires.1.1, (here-few _ _ _ _ c.requires.1.0 c.requires.1.1).0)

pub returns : goal.returns
returns c =
    (low-next _ _ _ _ c.requires.1.0 c.requires.1.1 _ _ c.requires.0 _ _ (rw c.phy_address.ensures at c.add-r.ensures), low-kept _ _ _ _ c.requires.1.0 c.requires.1.1 (λ z. c.if-phy_type-eq0.false (c.phy_type.ensures ∙ z)) _ _)
