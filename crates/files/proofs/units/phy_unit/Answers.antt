-- phy_unit reads its frame, places a refusal of it, and tests the fields of a phy that is not vacant.
use mathlib.Core.Path.{◌∙◌}
use Rattle.std.proofs.Common.{rules}
use Rattle.frames.proofs.RefusalPassedOn.{passed-on}
use Rattle.files.specs.File.{phy_unit}
use Rattle.files.proofs.CallResults.{placed_by}
use Rattle.files.proofs.units.phy_unit.Goals as goal

pub returns-in_err-frame : goal.returns-in_err-frame
unfolding phy_unit
returns-in_err-frame c =
    let k = placed_by c.args.i.0 c.args.p.0 c.discover_at.result c.map_err.result _ c.map_err.ensures.cases in
    let e = k (λ r s h. search rules) _ c.discover_at.ensures ∙ c.in_err-frame.was in
    simp (e, passed-on c.from_residual.result _ c.from_residual.ensures)

pub returns-in-Vacant : goal.returns-in-Vacant
unfolding phy_unit
returns-in-Vacant c =
    let k = placed_by c.args.i.0 c.args.p.0 c.discover_at.result c.map_err.result _ c.map_err.ensures.cases in
    let e = k (λ r s h. search rules) _ c.discover_at.ensures ∙ c.in_ok-frame.was in
    simp (e, c.in-Vacant.is)

pub returns-in-Fields : goal.returns-in-Fields
unfolding phy_unit
returns-in-Fields c =
    let k = placed_by c.args.i.0 c.args.p.0 c.discover_at.result c.map_err.result _ c.map_err.ensures.cases in
    let e = k (λ r s h. search rules) _ c.discover_at.ensures ∙ c.in_ok-frame.was in
    simp (e, c.in-Fields.is, c.phy_of.ensures)
