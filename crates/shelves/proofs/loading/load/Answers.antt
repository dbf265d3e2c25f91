-- A request: the result that was worked out decides between the shelf as it was and the shelf loaded.
use Prim.Native.Nat.{ℕ, min}
use mathlib.Core.Path.{sym, ◌∙◌, ap}
use native.Mathlib.Omega.{arith}
use Rattle.shelves.specs.Shelf.{stepped_to, kind_in, loaded}
use Rattle.shelves.specs.declared.Shelf.{Shelf}
use Rattle.shelves.proofs.FrameResults.{exists, after-good, after-other}
use Rattle.frames.specs.Refusals.{good}
use Rattle.shelves.proofs.loading.load.Goals as goal

pub returns-then-result-ne0 : goal.returns-then-result-ne0
returns-then-result-ne0 c =
    let a = c.args in
    let r = c.result_of-result.ensures in
    c.stepped_to.ensures ∙ (ap (λ (n : ℕ). stepped_to a.shelf (good n)) r ∙ sym (after-other a.shelf a.q (λ z. c.if-result-ne0.true (r ∙ z))))

pub replace-requires : goal.replace-requires
replace-requires c =
    let a = c.args in
    let x = exists (min 16 a.shelf.phys) (min 64 a.shelf.route_indexes) (kind_in a.shelf.kinds) a.q.phy.0 a.q.index.0 (sym c.result_of-result.ensures ∙ c.if-result-ne0.false) in
    let t = x.there in
    let b = x.below in
    omega arith

pub returns : goal.returns
returns c =
    let a = c.args in
    let r = c.result_of-result.ensures in
    c.stepped_to-2.ensures ∙ (ap (λ (s : Shelf). stepped_to s (good c.result_of-result.result)) c.replace.ensures
    ∙ (ap (λ (n : ℕ). stepped_to (loaded a.shelf a.q) (good n)) r ∙ sym (after-good a.shelf a.q (sym r ∙ c.if-result-ne0.false))))
