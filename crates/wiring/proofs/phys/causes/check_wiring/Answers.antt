-- check_wiring meets its contract: the answers of the four searches in order.
use mathlib.Core.Path.{refl, sym}
use Rattle.frames.proofs.RefusalPassedOn.{passed-on}
use Rattle.files.specs.Rows.{domain_in}
use Rattle.wiring.proofs.phys.PlaceSearches.{wired-by}
use Rattle.wiring.proofs.phys.causes.check_wiring.Goals as goal

pub returns-in_err-first_of : goal.returns-in_err-first_of
returns-in_err-first_of c =
    let d = domain_in c.args.d.now.rows.now in
    rw (passed-on c.from_residual.result _ c.from_residual.ensures) (wired-by d (sym c.in_err-first_of.ensures) refl refl refl)

pub returns-in_err-first_of-2 : goal.returns-in_err-first_of-2
returns-in_err-first_of-2 c =
    let d = domain_in c.args.d.now.rows.now in
    rw (passed-on c.from_residual-in_err-first_of-2.result _ c.from_residual-in_err-first_of-2.ensures)
    (wired-by d (sym c.in_ok-first_of.ensures) (sym c.in_err-first_of-2.ensures) refl refl)

pub returns-in_err-first_of-3 : goal.returns-in_err-first_of-3
returns-in_err-first_of-3 c =
    let d = domain_in c.args.d.now.rows.now in
    rw (passed-on c.from_residual-in_err-first_of-3.result _ c.from_residual-in_err-first_of-3.ensures)
    (wired-by d (sym c.in_ok-first_of.ensures) (sym c.in_ok-first_of-2.ensures) (sym c.in_err-first_of-3.ensures) refl)

pub returns : goal.returns
returns c =
    wired-by (domain_in c.args.d.now.rows.now) (sym c.in_ok-first_of.ensures) (sym c.in_ok-first_of-2.ensures) (sym c.in_ok-first_of-3.ensures) (sym c.first_of-4.ensures)
