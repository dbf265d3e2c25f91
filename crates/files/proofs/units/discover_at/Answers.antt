-- discover_at finds the size of its frame, and hands the frame's part of the file to read_discover.
use mathlib.Core.Path.{sym, ◌∙◌}
use native.Mathlib.Nat.{add-sub_cancel_left}
use native.Mathlib.Omega.{arith}
use Rattle.frames.specs.declared.Response.TheVariants.{Discover}
use Rattle.frames.proofs.RefusalPassedOn.{passed-on}
use Rattle.files.proofs.UnitReading.{size-within}
use Rattle.files.proofs.units.discover_at.Goals as goal

pub overflow_add-next : goal.overflow_add-next
overflow_add-next c =
    let h = size-within Discover c.args.file.now c.args.at _ (sym c.size_at.ensures ∙ c.in_ok-next.was) in
    omega arith

pub slice_bounds-read_discover-end : goal.slice_bounds-read_discover-end
slice_bounds-read_discover-end c =
    let h = size-within Discover c.args.file.now c.args.at _ (sym c.size_at.ensures ∙ c.in_ok-next.was) in
    omega arith

pub returns-in_err-next : goal.returns-in_err-next
returns-in_err-next c = simp (sym c.size_at.ensures ∙ c.in_err-next.was, passed-on c.from_residual.result _ c.from_residual.ensures)

pub returns-in_err-found : goal.returns-in_err-found
returns-in_err-found c =
    let q = simp add-sub_cancel_left at (sym c.read_discover.ensures ∙ c.in_err-found.was) in
    simp (sym c.size_at.ensures ∙ c.in_ok-next.was, q, passed-on c.from_residual-in_err-found.result _ c.from_residual-in_err-found.ensures)

pub returns : goal.returns
returns c =
    let q = simp add-sub_cancel_left at (sym c.read_discover.ensures ∙ c.in_ok-found.was) in
    simp (sym c.size_at.ensures ∙ c.in_ok-next.was, q)
