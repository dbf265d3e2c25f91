-- check_file meets its contract: the tests of the setting and of the first two bytes, then the expanders.
use mathlib.Core.Path.{refl, sym, ◌∙◌, ap}
use borrow.Author.Tests.{eq-eqb, ne_eqb, le-leb, lt-leb, not-true, not-false}
use Rattle.frames.specs.Refusals.{refused}
use Rattle.files.proofs.UnitReading.{file-by}
use Rattle.files.proofs.file.check_file.Goals as goal

pub returns-then-not-is_in_range : goal.returns-then-not-is_in_range
returns-then-not-is_in_range c =
    ap refused c.refused.ensures ∙ sym (file-by _ _ (sym c.is_in_range.ensures ∙ not-true _ c.if-not-is_in_range.true-raw) refl refl refl)

pub returns-then-file-lt2 : goal.returns-then-file-lt2
returns-then-file-lt2 c =
    let r = sym c.is_in_range.ensures ∙ not-false _ c.if-not-is_in_range.false-raw in
    ap refused c.refused-then-file-lt2.ensures ∙ sym (file-by _ _ r (lt-leb _ _ c.if-file-lt2.true) refl refl)

pub returns-then-file-ne16 : goal.returns-then-file-ne16
returns-then-file-ne16 c =
    let r = sym c.is_in_range.ensures ∙ not-false _ c.if-not-is_in_range.false-raw in
    ap refused c.refused-then-file-ne16.ensures ∙ sym (file-by _ _ r (le-leb _ _ c.if-file-lt2.false) (ne_eqb _ _ c.if-file-ne16.true) refl)

pub returns-then-not-is_within : goal.returns-then-not-is_within
returns-then-not-is_within c =
    let r = sym c.is_in_range.ensures ∙ not-false _ c.if-not-is_in_range.false-raw in
    let w = sym c.is_within.ensures ∙ not-true _ c.if-not-is_within.true-raw in
    ap refused c.refused-then-not-is_within.ensures ∙ sym (file-by _ _ r (le-leb _ _ c.if-file-lt2.false) (eq-eqb _ _ c.if-file-ne16.false) w)

pub returns : goal.returns
returns c =
    let r = sym c.is_in_range.ensures ∙ not-false _ c.if-not-is_in_range.false-raw in
    let w = sym c.is_within.ensures ∙ not-false _ c.if-not-is_within.false-raw in
    c.check_expanders.ensures ∙ sym (file-by _ _ r (le-leb _ _ c.if-file-lt2.false) (eq-eqb _ _ c.if-file-ne16.false) w)
