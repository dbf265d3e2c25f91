-- replug_rows meets its contract: it is refused by causes 7 to 12 and 23, or goes on as replug_checked does.
use mathlib.Core.Path.{sym, ap, ◌∙◌}
use Rattle.frames.proofs.RefusalPassedOn.{passed-on}
use Rattle.files.specs.Rows.{domain_in}
use Rattle.wiring.specs.phys.Checks.{check_answer}
use Rattle.wiring.proofs.CheckOutcomes.{room_checked}
use Rattle.tables.proofs.events.ReplugOutcomes.{unchecked, as_run, replug-refused, replug_as, rows_stay, rows_as}
use Rattle.tables.proofs.events.replugging.replug_rows.Goals as goal

pub replug_checked-requires : goal.replug_checked-requires
replug_checked-requires c =
    (c.check_domain.ensures.index_left.written (room_checked _ _ _ _ _ (sym c.check_domain.ensures.result_value ∙ ap (check_answer _) c.in_ok-check_domain.was))).index

pub returns-in_err-check_domain : goal.returns-in_err-check_domain
returns-in_err-check_domain c =
    let at-args = c.args in
    let u = unchecked _ at-args.e.0 at-args.p.0 at-args.a (domain_in at-args.rows.now) _ _ _ _ (sym c.check_domain.ensures.result_value ∙ ap (check_answer _) c.in_err-check_domain.was) in record {
      rows_after = rows_stay _ _ _ _ _ _ u.0;
      replug_done = rw (passed-on c.from_residual.result _ c.from_residual.ensures) (replug-refused _ _ _ _ u.1);
      index_left = c.check_domain.ensures.index_left;
    }

pub returns : goal.returns
returns c =
    let at-args = c.args in
    let u = as_run _ at-args.e.0 at-args.p.0 at-args.a (domain_in at-args.rows.now) _ _ _ _ (sym c.check_domain.ensures.result_value ∙ ap (check_answer _) c.in_ok-check_domain.was) in record {
      rows_after = rows_as _ _ _ _ _ _ _ u.0 c.replug_checked.ensures.rows;
      replug_done = replug_as _ _ _ _ _ _ u.1 c.replug_checked.ensures.done;
      index_left = c.check_domain.ensures.index_left;
    }
