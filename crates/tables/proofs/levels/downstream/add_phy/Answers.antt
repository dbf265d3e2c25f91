-- add_phy meets its contract: nothing is added where the levels do not go on; else the number that the entries tell.
use Prim.Native.Nat.{ℕ}
use mathlib.Core.List.{List, [], ◌∷◌}
use mathlib.Core.Path.{◌≡◌, sym, ◌∙◌, ap}
use lib.ListN.{length, take}
use borrow.Author.Tests.{not-true, not-false}
use Rattle.files.specs.Domain.{Domain, address_of, number_of}
use Rattle.files.specs.Rows.{domain_in}
use Rattle.tables.specs.lists.GrowingLists.{add_all}
use Rattle.tables.proofs.lists.GrowingLists.{add_all-none, grown-kept, grown-same}
use Rattle.tables.proofs.levels.DownstreamLists.{downstream-none, downstream-one}
use Rattle.tables.proofs.levels.LinkPhys.{far-down}
use native.Mathlib.Omega.{arith}
use Rattle.tables.proofs.levels.downstream.add_phy.Goals as goal

pub returns-then-not-is_down : goal.returns-then-not-is_down
returns-then-not-is_down c =
    let a = c.args in
    let e = downstream-none (domain_in a.d.now.rows.now) a.f (sym c.is_down.ensures ∙ not-true _ c.if-not-is_down.true-raw) in
    let room : ℕ = length a.part.now in
    let l : List ℕ = take a.m a.part.now in
    grown-kept a.m a.part.now (ap (add_all room l) e ∙ add_all-none room l) (omega (arith, c.requires.1))

pub returns : goal.returns
returns c =
    let at_pre = c.requires in
    let a = c.args in
    let d : Domain = domain_in a.d.now.rows.now in
    let room : ℕ = length a.part.now in
    let l : List ℕ = take a.m a.part.now in
    let down = sym c.is_down.ensures ∙ not-false _ c.if-not-is_down.false-raw in
    let j : c.attached_expander.result.0 ≡ number_of d (address_of a.f) = c.attached_expander.ensures ∙ far-down a.d.now.rows.now a.d.now.first.now a.i.0 a.p.0 a.f a.d.now.attached at_pre.0 down in
    grown-same c.add_number.ensures (ap (λ (v : ℕ). add_all room l (v ∷ [])) j ∙ sym (ap (add_all room l) (downstream-one d a.f down)))
