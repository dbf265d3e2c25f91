-- retest meets its contract: the answers of the three searches in order.
use mathlib.Core.Path.{refl, sym, ◌∙◌, ap}
use Rattle.frames.proofs.RefusalPassedOn.{passed-on}
use Rattle.wiring.specs.phys.Checks.{check_answer}
use Rattle.files.specs.Domain.{Domain}
use Rattle.files.specs.Rows.{domain_in}
use Rattle.wiring.proofs.phys.PlaceSearches.{told}
use Rattle.tables.proofs.events.RetestLoops.{retested-by}
use Rattle.tables.proofs.events.retesting.retest.Goals as goal

pub returns-in_err-first_claim : goal.returns-in_err-first_claim
returns-in_err-first_claim c =
    let at-args = c.args in
    let d : Domain = domain_in at-args.d.now.levels.attached.rows.now in ap (check_answer d) (passed-on c.from_residual.result _ c.from_residual.ensures) ∙ retested-by d at-args.e.0 at-args.s (told d c.first_claim.ensures c.in_err-first_claim.was) refl refl

pub returns-in_err-first_clash : goal.returns-in_err-first_clash
returns-in_err-first_clash c =
    let at-args = c.args in
    let d : Domain = domain_in at-args.d.now.levels.attached.rows.now in ap (check_answer d) (passed-on c.from_residual-in_err-first_clash.result _ c.from_residual-in_err-first_clash.ensures) ∙ retested-by d at-args.e.0 at-args.s (told d c.first_claim.ensures c.in_ok-first_claim.was) (told d c.first_clash.ensures c.in_err-first_clash.was) refl

pub returns : goal.returns
returns c =
    let at-args = c.args in
    let d : Domain = domain_in at-args.d.now.levels.attached.rows.now in retested-by d at-args.e.0 at-args.s (told d c.first_claim.ensures c.in_ok-first_claim.was) (told d c.first_clash.ensures c.in_ok-first_clash.was) (sym c.overlong_past.ensures)
