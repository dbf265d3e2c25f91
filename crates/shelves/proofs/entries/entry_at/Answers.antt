-- The entry exists where the result is 00h, which also bounds its place.
use Prim.Native.Nat.{ℕ, min}
use mathlib.Core.Path.{sym, ◌∙◌, ap}
use native.Mathlib.Omega.{arith}
use lib.ListN.{get_or}
use borrow.Author.Tests.{eq-eqb, ne_eqb}
use Rattle.shelves.specs.Shelf.{kind_in, shelf_result, entry_at}
use Rattle.shelves.proofs.FrameResults.{exists}
use Rattle.shelves.proofs.entries.entry_at.Goals as goal

pub returns-then-result-ne0 : goal.returns-then-result-ne0
unfolding entry_at
returns-then-result-ne0 c =
    let a = c.args in
    simp (ne_eqb (shelf_result a.shelf a.phy.0 a.index.0) 0x00 (λ z. c.if-result-ne0.true (c.result_of-result.ensures ∙ z)))

pub bounds-shelf-at : goal.bounds-shelf-at
bounds-shelf-at c =
    let a = c.args in
    let x = exists (min 16 a.shelf.phys) (min 64 a.shelf.route_indexes) (kind_in a.shelf.kinds) a.phy.0 a.index.0 (sym c.result_of-result.ensures ∙ c.if-result-ne0.false) in
    let t = x.there in
    let b = x.below in
    omega arith

pub returns : goal.returns
unfolding entry_at
returns c =
    let a = c.args in
    simp (eq-eqb (shelf_result a.shelf a.phy.0 a.index.0) 0x00 (sym c.result_of-result.ensures ∙ c.if-result-ne0.false)) (ap (λ (at : ℕ). get_or a.shelf.entries at 0) c.place_of-at.ensures)
