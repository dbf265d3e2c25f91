-- What the shelf was told decides between the fresh shelf and refusal 3.
use mathlib.Core.Path.{sym, ◌∙◌, ap}
use native.Mathlib.Omega.{arith}
use borrow.Author.Tests.{not-true, not-false}
use Rattle.frames.specs.declared.Refusal.{Refusal}
use Rattle.shelves.specs.Shelf.{stepped_to}
use Rattle.shelves.specs.declared.Shelf.{Shelf}
use Rattle.shelves.proofs.ToldKinds.{told-says, made-fresh, made-refused}
use Rattle.frames.specs.Refusals.{refused, good}
use Rattle.shelves.proofs.making.make.Goals as goal

pub returns-then-not-is_told : goal.returns-then-not-is_told
returns-then-not-is_told c =
    let a = c.args in
    let e = sym c.is_told.ensures ∙ not-true _ c.if-not-is_told.true-raw in
    c.stepped_to.ensures ∙ (ap (λ (r : Refusal). stepped_to a.shelf (refused r)) c.refused.ensures ∙ sym (made-refused a.shelf a.phys a.route_indexes a.kinds.now e))

pub fresh_shelf-requires : goal.fresh_shelf-requires
fresh_shelf-requires c =
    let a = c.args in
    let t = told-says a.phys a.route_indexes a.kinds.now (sym c.is_told.ensures ∙ not-false _ c.if-not-is_told.false-raw) in
    let f = t.few in
    let g = t.each in
    omega arith

pub returns : goal.returns
returns c =
    let a = c.args in
    let e = sym c.is_told.ensures ∙ not-false _ c.if-not-is_told.false-raw in
    c.stepped_to-2.ensures ∙ (ap (λ (s : Shelf). stepped_to s (good 0x00)) c.fresh_shelf.ensures ∙ sym (made-fresh a.shelf a.phys a.route_indexes a.kinds.now e))
