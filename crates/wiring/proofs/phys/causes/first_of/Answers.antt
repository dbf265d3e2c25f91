-- first_of meets its contract. The loop's invariant: the first place from expander i on is the first of all.
use Rattle.frames.proofs.RefusalPassedOn.{passed-on}
use Rattle.wiring.specs.phys.CauseNumbers.{phy_cause}
use Rattle.wiring.specs.phys.Checks.{cause_of}
use Rattle.files.specs.Rows.{domain_in}
use Rattle.wiring.proofs.phys.PlaceSearches.{from_next, from_end}
use native.Mathlib.Omega.{arith}
use Rattle.wiring.proofs.phys.causes.first_of.Goals as goal

pub returns-in_err-first_phy : goal.returns-in_err-first_phy
returns-in_err-first_phy c =
    let a = c.args in
    let d = domain_in a.d.now.rows.now in
    rw (passed-on c.from_residual.result _ c.from_residual.ensures)
    (from_next (phy_cause a.cause) (cause_of (phy_cause a.cause) d) d c.loop-i.i c.loop-i.invariant c.first_phy.ensures c.in_err-first_phy.was (omega arith))

pub loop-i-preserved : goal.loop-i-preserved
loop-i-preserved c =
    let a = c.args in
    let d = domain_in a.d.now.rows.now in
    from_next (phy_cause a.cause) (cause_of (phy_cause a.cause) d) d c.loop-i.i c.loop-i.invariant c.first_phy.ensures c.in_ok-first_phy.was (omega arith)

pub returns : goal.returns
returns c =
    let a = c.args in
    let d = domain_in a.d.now.rows.now in
    from_end (phy_cause a.cause) (cause_of (phy_cause a.cause) d) d c.loop-i.i c.loop-i.invariant (omega arith)
