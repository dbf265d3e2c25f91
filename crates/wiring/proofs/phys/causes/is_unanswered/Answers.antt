-- is_unanswered meets its contract: the type, the attribute, and what the far end names tell.
use mathlib.Core.Bool.{not}
use mathlib.Core.Path.{◌∙◌, ap}
use lib.Dec.{le→leb}
use borrow.Author.Tests.{eq-eqb, ne_eqb, le-leb, lt-leb}
use Rattle.files.proofs.RowsAsDomain.{phy-held}
use Rattle.wiring.specs.phys.PhyCauses.{unanswered}
use Rattle.files.specs.Domain.{type_of, attribute_of, attached_phy_of, phy_at}
use Rattle.files.specs.Rows.{domain_in}
use Rattle.wiring.proofs.index.SlotDevices.{short_in}
use Rattle.wiring.proofs.index.IndexEntries.{far-told}
use native.Mathlib.Omega.{arith}
use Rattle.wiring.proofs.phys.causes.is_unanswered.Goals as goal

pub returns-then-phy_type-lt2 : goal.returns-then-phy_type-lt2
unfolding unanswered
returns-then-phy_type-lt2 c =
    let a = c.args in
    let e = c.phy_type.ensures ∙ ap type_of (c.phy_in_row-f.ensures ∙ phy-held _ _ _ c.requires) in
    simp (lt-leb 2 (type_of (phy_at (domain_in a.d.now.rows.now) a.i.0 a.p.0)) (omega arith))

pub returns-then-phy_attribute-eq0 : goal.returns-then-phy_attribute-eq0
unfolding unanswered
returns-then-phy_attribute-eq0 c =
    let a = c.args in
    let at_pre = c.requires in
    let f = c.phy_in_row-f.ensures ∙ phy-held _ _ _ at_pre in
    let φ = phy_at (domain_in a.d.now.rows.now) a.i.0 a.p.0 in
    let e = c.phy_type.ensures ∙ ap type_of f in
    let g = c.phy_attribute.ensures ∙ ap attribute_of f in
    simp (le-leb 2 (type_of φ) (omega arith), eq-eqb (attribute_of φ) 0 (omega arith))

pub returns : goal.returns
unfolding unanswered
returns c =
    let a = c.args in
    let d = domain_in a.d.now.rows.now in
    let f = c.phy_in_row-f.ensures ∙ phy-held _ _ _ c.requires in
    let φ = phy_at d a.i.0 a.p.0 in
    let e = c.phy_type.ensures ∙ ap type_of f in
    let g = c.phy_attribute.ensures ∙ ap attribute_of f in
    let n = c.attached_expander-j.ensures ∙ far-told d a.i.0 a.p.0 (omega (arith, c.requires, short_in a.d.now.rows.now a.i.0)) _ c.args.d.now.indexed.firsts (le→leb 2 (type_of φ) (omega arith)) in
    let h = rw (c.attached_phy.ensures ∙ ap attached_phy_of f, n) at c.phy_at-g.ensures in
    simp (le-leb 2 (type_of φ) (omega arith), ne_eqb (attribute_of φ) 0 (λ x. omega arith)) (ap not (rw (c.expander_address.ensures, h) at c.is_naming.ensures))
