-- form_list meets its contract: more than 16,512 words are no form, as none are, and each room is chosen for so many expanders. The measure is the number of words.
use mathlib.Core.Path.{sym}
use native.Mathlib.Omega.{arith}
use lib.Seq.{length-take-le}
use Rattle.forms.proofs.TooManyWords.{list-cut}
use Rattle.forms.proofs.list_calls.+form_list.Goals as goal

pub slice_bounds-form_list-end : goal.slice_bounds-form_list-end
slice_bounds-form_list-end t c =
    let at-args = c.args in
    sym (length-take-le 0 at-args.form.now (omega arith))

pub form_list-requires : goal.form_list-requires
form_list-requires t c =
    let at_pre = c.requires in
    let at-args = c.args in
    (omega (arith, c.if-form-gt-ROWS_OF_64.true, length-take-le 0 at-args.form.now (omega arith)), tt)

pub returns-then-form-gt-ROWS_OF_64 : goal.returns-then-form-gt-ROWS_OF_64
returns-then-form-gt-ROWS_OF_64 t c =
    let at-args = c.args in
    list-cut at-args.setting at-args.form.now c.if-form-gt-ROWS_OF_64.true _ _ _ _ _ _ _ _ c.form_list.ensures
