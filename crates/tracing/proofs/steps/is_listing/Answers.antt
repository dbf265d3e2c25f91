-- is_listing meets its contract: type and attribute as the definition tests them, and then the words of the phy's own stretch.
use mathlib.Core.Path.{◌≡◌, ◌∙◌, ap}
use native.Mathlib.Omega.{arith}
use borrow.Author.Tests.{eq-eqb, le-leb}
use Rattle.tables.specs.WiringDefinitions.{Phy}
use Rattle.tables.specs.WiringDefinitions.{Domain, phy_at, type_of, attribute_of}
use Rattle.tables.specs.WiringDefinitions.{domain_in}
use Rattle.tables.specs.filling.Entries.{entries, counted}
use Rattle.tracing.proofs.PhyPicks.{in_stretch}
use Rattle.tracing.proofs.steps.is_listing.Goals as goal

pub returns : goal.returns
returns c =
    let a = c.args in
    let d : Domain = domain_in a.rows.now in
    let φ : Phy = phy_at d a.i.0 a.p.0 in
    let o = c.requires in
    let e = c.phy_at-f.ensures in
    let y : c.phy_type.result ≡ type_of φ = c.phy_type.ensures ∙ ap type_of e in
    let z : c.phy_attribute.result ≡ attribute_of φ = c.phy_attribute.ensures ∙ ap attribute_of e in
    rw (le-leb 2 (type_of φ) (omega arith), eq-eqb (attribute_of φ) 2 (omega arith))
    (c.lists.ensures ∙ in_stretch d (counted (entries a.words.now a.bits.now)) a.i.0 a.p.0 a.s c.route_indexes.ensures o)
