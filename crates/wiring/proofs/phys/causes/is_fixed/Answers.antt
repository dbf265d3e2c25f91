-- is_fixed meets its contract: the attribute and the configurable bit tell.
use mathlib.Core.Path.{◌∙◌, ap}
use borrow.Author.Tests.{eq-eqb, ne_eqb}
use Rattle.files.proofs.RowsAsDomain.{phy-held}
use Rattle.wiring.specs.phys.PhyCauses.{fixed}
use Rattle.files.specs.Domain.{attribute_of, phy_at}
use Rattle.files.specs.Rows.{domain_in}
use native.Mathlib.Omega.{arith}
use Rattle.wiring.proofs.phys.causes.is_fixed.Goals as goal

pub returns-then-phy_attribute-ne2 : goal.returns-then-phy_attribute-ne2
unfolding fixed
returns-then-phy_attribute-ne2 c =
    let a = c.args in
    let e = c.phy_attribute.ensures ∙ ap attribute_of (c.phy_in_row.ensures ∙ phy-held _ _ _ c.requires) in
    simp (ne_eqb (attribute_of (phy_at (domain_in a.rows.now) a.i.0 a.p.0)) 2 (λ x. omega arith))

pub returns : goal.returns
unfolding fixed
returns c =
    let a = c.args in
    let e = c.phy_attribute.ensures ∙ ap attribute_of (c.phy_in_row.ensures ∙ phy-held _ _ _ c.requires) in
    simp (eq-eqb (attribute_of (phy_at (domain_in a.rows.now) a.i.0 a.p.0)) 2 (omega arith), c.configurable_bit.ensures)
