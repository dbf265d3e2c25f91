-- size_at finds the size by the first four bytes of the frame, then asks whether so many are there: one return for each test that fails, and the size.
use mathlib.Core.Path.{sym, ◌∙◌, ap}
use native.Mathlib.Omega.{arith}
use borrow.Author.Tests.{not-true, not-false}
use Rattle.frames.specs.Refusals.{refused}
use Rattle.frames.specs.Sizes.{frame_size}
use Rattle.frames.proofs.RefusalPassedOn.{passed-on}
use Rattle.files.proofs.UnitReading.{rest-whole, size-cut, size-refused, size-by}
use Rattle.files.proofs.units.size_at.Goals as goal

pub returns-then-file-from : goal.returns-then-file-from
returns-then-file-from c = let a = c.args in ap refused c.refused.ensures ∙ sym (size-cut a.kind a.file.now a.from (omega arith))

pub returns-then-not-has_bytes : goal.returns-then-not-has_bytes
returns-then-not-has_bytes c =
    let a = c.args in
    let e = ap (frame_size a.kind) (sym (rest-whole a.file.now a.from)) ∙ sym c.frame_size.ensures ∙ c.in_ok-size.was in
    ap refused c.refused-then-not-has_bytes.ensures ∙ sym (size-by a.kind a.file.now a.from _ e (omega arith) (sym c.has_bytes.ensures ∙ not-true _ c.if-not-has_bytes.true-raw))

pub returns-in_err-size : goal.returns-in_err-size
returns-in_err-size c =
    let a = c.args in
    let e = ap (frame_size a.kind) (sym (rest-whole a.file.now a.from)) ∙ sym c.frame_size.ensures ∙ c.in_err-size.was in
    passed-on c.from_residual.result _ c.from_residual.ensures ∙ sym (size-refused a.kind a.file.now a.from _ e)

pub returns : goal.returns
returns c =
    let a = c.args in
    let e = ap (frame_size a.kind) (sym (rest-whole a.file.now a.from)) ∙ sym c.frame_size.ensures ∙ c.in_ok-size.was in
    sym (size-by a.kind a.file.now a.from _ e (omega arith) (sym c.has_bytes.ensures ∙ not-false _ c.if-not-has_bytes.false-raw))
