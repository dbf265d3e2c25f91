-- is_claimed meets its contract: the entry of the phy is below the slots of its expander where the address is taken.
use mathlib.Core.Path.{◌∙◌, ap}
use borrow.Author.Tests.{eq-eqb, ne_eqb}
use Rattle.files.proofs.RowsAsDomain.{phy-held}
use Rattle.wiring.specs.phys.PhyCauses.{claimed}
use Rattle.files.specs.Domain.{phy_at, type_of}
use Rattle.files.specs.Rows.{domain_in}
use Rattle.files.proofs.ListMembers.{eq→eqb}
use Rattle.files.proofs.Domains.{expander-range}
use Rattle.wiring.proofs.index.SlotDevices.{short_in}
use Rattle.wiring.proofs.index.IndexEntries.{taken-told}
use native.Mathlib.Omega.{arith}
use Rattle.wiring.proofs.phys.causes.is_claimed.Goals as goal

pub returns-then-phy_type-ne1 : goal.returns-then-phy_type-ne1
unfolding claimed
returns-then-phy_type-ne1 c =
    let a = c.args in
    let e = c.phy_type.ensures ∙ ap type_of (c.phy_in_row.ensures ∙ phy-held _ _ _ c.requires) in
    simp (ne_eqb (type_of (phy_at (domain_in a.d.now.rows.now) a.i.0 a.p.0)) 1 (λ x. omega arith))

pub bounds-d-from : goal.bounds-d-from
bounds-d-from c =
    let pre = c.requires in
    let a = c.args in
    omega (arith, pre, short_in a.d.now.rows.now a.i.0, expander-range (domain_in a.d.now.rows.now) a.i.0 a.p.0 pre, a.d.now.indexed.firsts.slots)

pub returns : goal.returns
unfolding claimed
returns c =
    let pre = c.requires in
    let a = c.args in
    let φ = phy_at (domain_in a.d.now.rows.now) a.i.0 a.p.0 in
    let e = c.phy_type.ensures ∙ ap type_of (c.phy_in_row.ensures ∙ phy-held _ _ _ pre) in
    simp (eq-eqb (type_of φ) 1 (omega arith))
    (taken-told _ a.i.0 a.p.0 (omega (arith, pre, short_in a.d.now.rows.now a.i.0)) a.d.now.first.now a.d.now.indexed.firsts (eq→eqb (type_of φ) 1 (omega arith)))
