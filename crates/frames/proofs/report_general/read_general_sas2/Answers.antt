-- read_general_sas2 answers what read_general does, and by byte 3 that the frame is short, or its other fields.
use mathlib.Core.Path.{sym, ◌∙◌}
use native.Mathlib.Omega.{arith}
use borrow.Author.Tests.{eq-eqb, ne_eqb}
use Rattle.frames.specs.ReportGeneral.{general_read_sas2}
use Rattle.frames.proofs.RefusalPassedOn.{passed-on}
use Rattle.frames.proofs.LongFrames.{general-least}
use Rattle.frames.proofs.report_general.read_general_sas2.Goals as goal

pub bounds-frame-3 : goal.bounds-frame-3
bounds-frame-3 c =
    let h = general-least _ _ (sym c.read_general.ensures ∙ c.in_ok-fields.was) in
    omega arith

pub returns-then-frame-eq0 : goal.returns-then-frame-eq0
unfolding general_read_sas2
returns-then-frame-eq0 c =
    simp (sym c.read_general.ensures ∙ c.in_ok-fields.was, eq-eqb _ _ c.if-frame-eq0.true)

pub long_fields_in-requires : goal.long_fields_in-requires
long_fields_in-requires c =
    general-least _ _ (sym c.read_general.ensures ∙ c.in_ok-fields.was)

pub returns-in_err-fields : goal.returns-in_err-fields
unfolding general_read_sas2
returns-in_err-fields c = simp (sym c.read_general.ensures ∙ c.in_err-fields.was, passed-on c.from_residual.result _ c.from_residual.ensures)

pub returns : goal.returns
unfolding general_read_sas2
returns c =
    simp (sym c.read_general.ensures ∙ c.in_ok-fields.was, ne_eqb _ _ c.if-frame-eq0.false, c.long_fields_in.ensures)
