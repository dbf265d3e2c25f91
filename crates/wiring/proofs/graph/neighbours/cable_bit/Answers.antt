-- far_bit meets its contract: the entry of the phy has the number of its expander, and 1 shifted by it has this bit alone.
use mathlib.Core.Path.{◌∙◌, ap}
use lib.Dec.{le→leb}
use borrow.Author.Tests.{le-leb}
use Rattle.files.proofs.RowsAsDomain.{phy-held}
use Rattle.files.specs.Domain.{type_of, phy_at}
use Rattle.files.specs.Rows.{domain_in}
use Rattle.wiring.proofs.index.IndexEntries.{far_in}
use Rattle.wiring.proofs.graph.CableSets.{far_no, far_high, far-one}
use native.Mathlib.Omega.{arith}
use Rattle.wiring.proofs.graph.neighbours.cable_bit.Goals as goal

pub returns-then-phy_type-lt2 : goal.returns-then-phy_type-lt2
returns-then-phy_type-lt2 c =
    let e = c.phy_type.ensures ∙ ap type_of (c.phy_in_row.ensures ∙ phy-held _ _ _ c.requires) in
    far_no _ _ (omega arith)

pub returns-then-m-ge64 : goal.returns-then-m-ge64
returns-then-m-ge64 c =
    let pre = c.requires in
    let a = c.args in
    let φ = phy_at (domain_in a.d.now.rows.now) a.i.0 a.p.0 in
    let e = c.phy_type.ensures ∙ ap type_of (c.phy_in_row.ensures ∙ phy-held _ _ _ pre) in
    let n = c.attached_expander-m.ensures ∙ far_in a.d.now.rows.now a.d.now.first.now a.i.0 a.p.0 a.d.now.indexed.firsts (le→leb 2 (type_of φ) (omega arith)) in
    far_high _ φ (le-leb 2 (type_of φ) (omega arith)) _ n (omega arith)

pub returns : goal.returns
returns c =
    let pre = c.requires in
    let a = c.args in
    let φ = phy_at (domain_in a.d.now.rows.now) a.i.0 a.p.0 in
    let e = c.phy_type.ensures ∙ ap type_of (c.phy_in_row.ensures ∙ phy-held _ _ _ pre) in
    let n = c.attached_expander-m.ensures ∙ far_in a.d.now.rows.now a.d.now.first.now a.i.0 a.p.0 a.d.now.indexed.firsts (le→leb 2 (type_of φ) (omega arith)) in
    far-one _ φ (le-leb 2 (type_of φ) (omega arith)) _ n (omega arith)
