-- first_level meets its contract: no expander where the levels do not go on; else the one that the entries tell.
use Prim.Native.Nat.{ℕ}
use mathlib.Core.List.{[], ◌∷◌}
use mathlib.Core.Path.{◌≡◌, sym, ◌∙◌, ap}
use borrow.Author.Tests.{not-true, not-false}
use Rattle.files.specs.Domain.{Domain, address_of, number_of}
use Rattle.files.specs.Rows.{domain_in}
use Rattle.tables.proofs.lists.GrowingLists.{grown-kept, grown-more}
use Rattle.tables.proofs.levels.DownstreamLists.{downstream-none, downstream-one}
use Rattle.tables.proofs.levels.LinkPhys.{far-down}
use native.Mathlib.Omega.{arith}
use Rattle.tables.proofs.levels.order.first_level.Goals as goal

pub returns-then-not-is_down : goal.returns-then-not-is_down
returns-then-not-is_down c =
    let a = c.args in
    let e = downstream-none (domain_in a.d.now.rows.now) a.f (sym c.is_down.ensures ∙ not-true _ c.if-not-is_down.true-raw) in
    grown-kept 0 a.level.now e (omega arith)

pub returns : goal.returns
returns c =
    let at_pre = c.requires in
    let a = c.args in
    let d : Domain = domain_in a.d.now.rows.now in
    let down = sym c.is_down.ensures ∙ not-false _ c.if-not-is_down.false-raw in
    let j : c.attached_expander.result.0 ≡ number_of d (address_of a.f) = c.attached_expander.ensures ∙ far-down a.d.now.rows.now a.d.now.first.now a.i.0 a.p.0 a.f a.d.now.attached at_pre.0 down in
    grown-more 0 a.level.now c.attached_expander.result.0 (downstream-one d a.f down ∙ ap (λ (v : ℕ). v ∷ []) (sym j)) (omega (arith, at_pre.1))
