-- test_unit answers causes 3 and 4 of an expander's fields, and else the fields.
use mathlib.Core.Path.{sym, ◌∙◌}
use borrow.Author.Tests.{not-true, not-false}
use Rattle.files.proofs.units.test_unit.Goals as goal

pub returns-then-not-is_within : goal.returns-then-not-is_within
returns-then-not-is_within c =
    simp (sym c.is_within.ensures ∙ not-true _ c.if-not-is_within.true-raw, c.refusal_at.ensures)

pub returns-then-not-is_free : goal.returns-then-not-is_free
returns-then-not-is_free c =
    simp (sym c.is_within.ensures ∙ not-false _ c.if-not-is_within.false-raw, sym c.is_free.ensures ∙ not-true _ c.if-not-is_free.true-raw, c.refusal_at-then-not-is_free.ensures)

pub returns : goal.returns
returns c =
    simp (sym c.is_within.ensures ∙ not-false _ c.if-not-is_within.false-raw, sym c.is_free.ensures ∙ not-false _ c.if-not-is_free.false-raw)
