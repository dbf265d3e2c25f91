-- form_tables meets its contract: more than 16,512 words are no form, as none are, and each room is chosen for so many expanders. The measure is the number of words.
use mathlib.Core.Path.{sym}
use native.Mathlib.Omega.{arith}
use lib.Seq.{length-take-le}
use Rattle.forms.proofs.TooManyWords.{tables-cut}
use Rattle.forms.proofs.table_calls.+form_tables.Goals as goal

pub slice_bounds-form_tables-end : goal.slice_bounds-form_tables-end
slice_bounds-form_tables-end t c =
    let at-args = c.args in
    sym (length-take-le 0 at-args.form.now (omega arith))

pub form_tables-requires : goal.form_tables-requires
form_tables-requires t c =
    let at_pre = c.requires in
    let at-args = c.args in
    (omega (arith, c.if-form-gt-ROWS_OF_64.true, length-take-le 0 at-args.form.now (omega arith)), tt)

pub returns-then-form-gt-ROWS_OF_64 : goal.returns-then-form-gt-ROWS_OF_64
returns-then-form-gt-ROWS_OF_64 t c =
    let at-args = c.args in
    tables-cut at-args.setting at-args.form.now c.if-form-gt-ROWS_OF_64.true _ _ _ _ c.form_tables.ensures
