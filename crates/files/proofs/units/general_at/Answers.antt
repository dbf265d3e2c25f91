-- general_at finds the size of its frame, and hands the frame's part of the file to read_general.
use mathlib.Core.Path.{sym, ◌∙◌}
use native.Mathlib.Nat.{add-sub_cancel_left}
use native.Mathlib.Omega.{arith}
use Rattle.frames.specs.declared.Response.TheVariants.{ReportGeneral}
use Rattle.frames.proofs.RefusalPassedOn.{passed-on}
use Rattle.files.proofs.UnitReading.{size-within}
use Rattle.files.proofs.units.general_at.Goals as goal

pub overflow_add-next : goal.overflow_add-next
overflow_add-next c =
    let h = size-within ReportGeneral c.args.file.now c.args.at _ (sym c.size_at.ensures ∙ c.in_ok-next.was) in
    omega arith

pub slice_bounds-read_general-end : goal.slice_bounds-read_general-end
slice_bounds-read_general-end c =
    let h = size-within ReportGeneral c.args.file.now c.args.at _ (sym c.size_at.ensures ∙ c.in_ok-next.was) in
    omega arith

pub returns-in_err-next : goal.returns-in_err-next
returns-in_err-next c = simp (sym c.size_at.ensures ∙ c.in_err-next.was, passed-on c.from_residual.result _ c.from_residual.ensures)

pub returns-in_err-fields : goal.returns-in_err-fields
returns-in_err-fields c =
    let q = simp add-sub_cancel_left at (sym c.read_general.ensures ∙ c.in_err-fields.was) in
    simp (sym c.size_at.ensures ∙ c.in_ok-next.was, q, passed-on c.from_residual-in_err-fields.result _ c.from_residual-in_err-fields.ensures)

pub returns : goal.returns
returns c =
    let q = simp add-sub_cancel_left at (sym c.read_general.ensures ∙ c.in_ok-fields.was) in
    simp (sym c.size_at.ensures ∙ c.in_ok-next.was, q)
