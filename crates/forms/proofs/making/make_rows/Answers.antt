-- make_rows meets its contract: the judging call's causes by own lists, then 16, then the form.
use mathlib.Core.Path.{sym, ◌∙◌, ap}
use Rattle.files.specs.Rows.{domain_in}
use Rattle.wiring.specs.phys.Checks.{check_answer}
use Rattle.frames.proofs.RefusalPassedOn.{passed-on}
use Rattle.tables.proofs.CallOutcomes.{judged-room}
use Rattle.forms.proofs.FormCallOutcomes.{rows-refused, rows_short, rows_made}
use native.Mathlib.Omega.{arith}
use Rattle.forms.proofs.making.make_rows.Goals as goal

pub returns-then-words-size : goal.returns-then-words-size
returns-then-words-size c =
    let at-args = c.args in
    rows_short _ (domain_in at-args.rows.now) at-args.words.now at-args.words.now _ (sym c.judge_rows.ensures.result_value ∙ ap (check_answer _) c.in_ok-judge_rows.was) (omega (arith, c.form_size-size.ensures.0)) c.refused.ensures

pub put_form-requires : goal.put_form-requires
put_form-requires c =
    ((c.judge_rows.ensures.index_left.written (judged-room _ _ _ _ _ (sym c.judge_rows.ensures.result_value ∙ ap (check_answer _) c.in_ok-judge_rows.was))).index.firsts, omega (arith, c.form_size-size.ensures.0))

pub returns-in_err-judge_rows : goal.returns-in_err-judge_rows
returns-in_err-judge_rows c =
    let at-args = c.args in
    rw (passed-on c.from_residual.result _ c.from_residual.ensures) (rows-refused _ (domain_in at-args.rows.now) at-args.words.now at-args.words.now _ (sym c.judge_rows.ensures.result_value ∙ ap (check_answer _) c.in_err-judge_rows.was))

pub returns : goal.returns
returns c =
    let at-args = c.args in
    rows_made _ (domain_in at-args.rows.now) at-args.words.now _ _ _ (sym c.judge_rows.ensures.result_value ∙ ap (check_answer _) c.in_ok-judge_rows.was) (omega (arith, c.form_size-size.ensures.0)) c.expander_count.ensures.0 c.form_size-size.ensures.0 c.put_form.ensures
