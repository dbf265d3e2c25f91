-- order_for meets its contract: a phy attached to no expander has no order, and phys of one link have one.
use mathlib.Core.Path.{refl, sym, ◌∙◌}
use native.Mathlib.Omega.{arith}
use borrow.Author.Tests.{lt-leb}
use Rattle.files.specs.Domain.{type_of}
use Rattle.files.specs.Rows.{domain_in}
use Rattle.files.proofs.ListMembers.{was_true}
use Rattle.tables.proofs.lists.GrowingLists.{grown-same, grown-kept}
use Rattle.tables.proofs.levels.LevelOrders.{not_down, order-none, order-linked}
use Rattle.tables.proofs.levels.order.order_for.Goals as goal

pub returns-then-phy_type-lt2 : goal.returns-then-phy_type-lt2
returns-then-phy_type-lt2 c =
    let a = c.args in
    let d = domain_in a.d.now.attached.rows.now in
    ((refl, refl), grown-kept 0 a.order.now (order-none d a.f (not_down d a.f (lt-leb 2 (type_of a.f) (omega (arith, c.phy_type.ensures, c.if-phy_type-lt2.true))))) (omega arith))

pub returns-then-are_one_link : goal.returns-then-are_one_link
returns-then-are_one_link c =
    let at_pre = c.requires in
    let at-args = c.args in
    ((refl, refl), grown-same at_pre.1.1 (sym (order-linked (domain_in at-args.d.now.attached.rows.now) at-args.f at-args.kept.fields (was_true _ (sym c.are_one_link.ensures ∙ c.if-are_one_link.true)))))
