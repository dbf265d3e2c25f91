-- read_general is the definition's chain of tests in its order: the size by the first four bytes, the length, the other fixed bytes; then the fields.
use mathlib.Core.Path.{sym, ◌∙◌}
use native.Mathlib.Omega.{arith}
use borrow.Author.Tests.{eq-eqb, ne_eqb, not-true, not-false}
use Rattle.frames.specs.declared.Response.TheVariants.{ReportGeneral}
use Rattle.frames.proofs.RefusalPassedOn.{passed-on}
use Rattle.frames.proofs.LongFrames.{size-least}
use Rattle.frames.specs.ReportGeneral.{general_read}
use Rattle.frames.proofs.report_general.read_general.Goals as goal

pub returns-then-frame-size : goal.returns-then-frame-size
unfolding general_read
returns-then-frame-size c =
    let e = sym c.frame_size.ensures ∙ c.in_ok-size.was in
    simp (e, ne_eqb _ _ c.if-frame-size.true, c.refused.ensures)

pub is_fixed-requires : goal.is_fixed-requires
is_fixed-requires c =
    let h = size-least ReportGeneral _ _ (sym c.frame_size.ensures ∙ c.in_ok-size.was) in
    omega arith

pub returns-then-not-is_fixed : goal.returns-then-not-is_fixed
unfolding general_read
returns-then-not-is_fixed c =
    let e = sym c.frame_size.ensures ∙ c.in_ok-size.was in
    simp (e, eq-eqb _ _ c.if-frame-size.false, sym c.is_fixed.ensures ∙ not-true _ c.if-not-is_fixed.true-raw, c.refused-then-not-is_fixed.ensures)

pub fields_in-requires : goal.fields_in-requires
fields_in-requires c =
    let h = size-least ReportGeneral _ _ (sym c.frame_size.ensures ∙ c.in_ok-size.was) in
    omega arith

pub returns-in_err-size : goal.returns-in_err-size
unfolding general_read
returns-in_err-size c = simp (sym c.frame_size.ensures ∙ c.in_err-size.was, passed-on c.from_residual.result _ c.from_residual.ensures)

pub returns : goal.returns
unfolding general_read
returns c =
    let e = sym c.frame_size.ensures ∙ c.in_ok-size.was in
    simp (e, eq-eqb _ _ c.if-frame-size.false, sym c.is_fixed.ensures ∙ not-false _ c.if-not-is_fixed.false-raw, c.fields_in.ensures)
