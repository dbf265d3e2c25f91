-- tables_in meets its contract: the rows hold what the form reads as, and the refusals of judging are 1.
use mathlib.Core.Path.{sym, ◌∙◌}
use lib.Seq.{length-take-le}
use borrow.Author.Tests.{not-true, not-false}
use Rattle.forms.proofs.FormRows.{form-few}
use Rattle.forms.proofs.FormCallOutcomes.{read_outside, read_closed, tables-formed, tables-refused}
use native.Mathlib.Omega.{arith}
use Rattle.forms.proofs.table_calls.tables_in.Goals as goal

pub returns-then-not-is_in_range : goal.returns-then-not-is_in_range
returns-then-not-is_in_range c =
    let at-args = c.args in
    tables-refused at-args.setting at-args.form.now _ _ (read_outside at-args.setting at-args.form.now (sym c.is_in_range.ensures ∙ not-true _ c.if-not-is_in_range.true-raw)) c.refused.ensures _ _

pub open_form-requires : goal.open_form-requires
open_form-requires c =
    let at_pre = c.requires in
    let at-args = c.args in
    ((at_pre.count, omega (arith, at_pre.count, form-few at-args.form.now)), at_pre.space)

pub returns-then-not-open_form : goal.returns-then-not-open_form
returns-then-not-open_form c =
    let at-args = c.args in
    tables-refused at-args.setting at-args.form.now _ _ (read_closed at-args.setting at-args.form.now (sym c.is_in_range.ensures ∙ not-false _ c.if-not-is_in_range.false-raw) (sym c.open_form.ensures.answers ∙ not-true _ c.if-not-open_form.true-raw)) c.refused-then-not-open_form.ensures _ _

pub slice_bounds-give_rows-end-2 : goal.slice_bounds-give_rows-end-2
slice_bounds-give_rows-end-2 c =
    let at_pre = c.requires in
    sym (length-take-le _ c.open_form.new.rows (omega (arith, c.open_form.auto.rows, at_pre.space)))

pub returns : goal.returns
returns c =
    let at-args = c.args in
    let at_pre = c.requires in
    tables-formed at-args.setting at-args.form.now _ c.open_form.ensures.holds at-args.first.now at-args.low.now at_pre.index (sym c.is_in_range.ensures ∙ not-false _ c.if-not-is_in_range.false-raw) (sym c.open_form.ensures.answers ∙ not-false _ c.if-not-open_form.false-raw) _ _ _ _ c.give_rows-answer.ensures.own_done c.over_form.ensures
