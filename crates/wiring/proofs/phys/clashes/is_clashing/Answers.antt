-- is_clashing meets its contract: the lowest phy with the same address has the attribute of all lower ones, and among subtractive phys another
-- address clashes.
use Rattle.wiring.proofs.phys.LowerPhys.{none-clash, other-clash, way_no, way-clash}
use Rattle.wiring.proofs.phys.clashes.is_clashing.Goals as goal

pub returns-then-phy_type-eq0 : goal.returns-then-phy_type-eq0
returns-then-phy_type-eq0 c =
    let at_pre = c.requires in
    none-clash _ _ _ at_pre _ c.phy_in_row-f.ensures _ c.phy_type.ensures c.if-phy_type-eq0.true

pub returns-then-phy_attribute-a : goal.returns-then-phy_attribute-a
returns-then-phy_attribute-a c =
    let pre = c.requires in
    let s = c.phy_in_row-f.ensures in
    other-clash _ _ _ pre _ s _ c.phy_type.ensures c.if-phy_type-eq0.false _ c.args.d.now.indexed.lows _ c.lowest_phy-q.ensures _ c.phy_in_row.ensures _ _ c.phy_attribute-a.ensures
    c.phy_attribute.ensures c.if-phy_attribute-a.true

pub returns-then-a-ne1 : goal.returns-then-a-ne1
returns-then-a-ne1 c =
    let pre = c.requires in
    let s = c.phy_in_row-f.ensures in
    way_no _ _ _ pre _ s _ c.phy_type.ensures c.if-phy_type-eq0.false _ c.args.d.now.indexed.lows _ c.lowest_phy-q.ensures _ c.phy_in_row.ensures _ _ c.phy_attribute-a.ensures
    c.phy_attribute.ensures c.if-phy_attribute-a.false c.if-a-ne1.true

pub returns : goal.returns
returns c =
    let pre = c.requires in
    let s = c.phy_in_row-f.ensures in
    way-clash _ _ _ pre _ s _ c.phy_type.ensures c.if-phy_type-eq0.false _ c.args.d.now.indexed.lows _ c.lowest_phy-q.ensures _ c.phy_in_row.ensures _ _ c.phy_attribute-a.ensures
    c.phy_attribute.ensures c.if-phy_attribute-a.false c.if-a-ne1.false _ _ c.has_other_way.ensures c.phy_address.ensures
