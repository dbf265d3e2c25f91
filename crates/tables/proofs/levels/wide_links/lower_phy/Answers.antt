-- lower_phy meets its contract: the lowest phy with the address is told where it is lower and on the same link.
use mathlib.Core.Path.{◌∙◌}
use Rattle.files.specs.Rows.{domain_in}
use Rattle.files.proofs.RowsAsDomain.{phy-held}
use Rattle.tables.proofs.levels.LinkPhys.{linked-at}
use native.Mathlib.Omega.{arith}
use Rattle.tables.proofs.levels.wide_links.lower_phy.Goals as goal

pub are_one_link-requires : goal.are_one_link-requires
are_one_link-requires c =
    let at_pre = c.requires in
    (at_pre.0, c.phy_in_row-g.ensures ∙ phy-held _ _ _ (omega (arith, at_pre.1)))

pub returns-then-are_one_link : goal.returns-then-are_one_link
returns-then-are_one_link c =
    let at-args = c.args in
    let at_pre = c.requires in
    λ h. linked-at (domain_in at-args.d.now.rows.now) at_pre.0 (c.phy_in_row-g.ensures ∙ phy-held _ _ _ (omega (arith, at_pre.1))) c.are_one_link.ensures c.if-are_one_link.true
