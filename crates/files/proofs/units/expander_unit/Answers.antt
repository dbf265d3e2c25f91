-- expander_unit tests that the address is there, reads the frame after it, places a refusal of it, and tests its fields.
use Prim.Native.Nat.{◌+◌}
use mathlib.Core.Path.{refl, sym, ◌∙◌, ap}
use native.Mathlib.Omega.{arith}
use lib.ListN.{length}
use borrow.Author.Tests.{leb-true, leb-false, not-true, not-false}
use Rattle.std.proofs.Common.{rules}
use Rattle.frames.specs.Refusals.{refused, refusal}
use Rattle.frames.specs.declared.Response.TheVariants.{ReportGeneral}
use Rattle.frames.proofs.RefusalPassedOn.{passed-on}
use Rattle.files.specs.File.{expander_unit}
use Rattle.files.proofs.CallResults.{placed_by}
use Rattle.files.proofs.UnitReading.{size-cut, expander-unit-cut}
use Rattle.files.proofs.units.expander_unit.Goals as goal

pub returns-then-not-has_bytes : goal.returns-then-not-has_bytes
returns-then-not-has_bytes c =
    let a = c.args in
    let h = leb-false (a.at + 8) (length a.file.now) (sym c.has_bytes.ensures ∙ not-true _ c.if-not-has_bytes.true-raw) in
    ap refused c.refusal_at.ensures ∙ sym (expander-unit-cut _ _ _ _ _ _ refl (refusal 1 0 0) (size-cut ReportGeneral a.file.now (a.at + 8) (omega arith)))

pub overflow_add-at : goal.overflow_add-at
overflow_add-at c =
    let a = c.args in
    let h = leb-true (a.at + 8) (length a.file.now) (sym c.has_bytes.ensures ∙ not-false _ c.if-not-has_bytes.false-raw) in
    omega arith

pub returns-in_err-frame : goal.returns-in_err-frame
unfolding expander_unit
returns-in_err-frame c =
    let k = placed_by c.args.i.0 0 c.general_at.result c.map_err.result _ c.map_err.ensures.cases in
    let e = k (λ r s h. search rules) _ c.general_at.ensures ∙ c.in_err-frame.was in
    simp (e, passed-on c.from_residual.result _ c.from_residual.ensures)

pub returns : goal.returns
unfolding expander_unit
returns c =
    let k = placed_by c.args.i.0 0 c.general_at.result c.map_err.result _ c.map_err.ensures.cases in
    let e = k (λ r s h. search rules) _ c.general_at.ensures ∙ c.in_ok-frame.was in
    simp (e, sym c.address_at.ensures) c.test_unit.ensures
