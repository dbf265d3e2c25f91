-- apply_rows meets its contract: the event call on the file's domain is the call over its rows, and the file is edited where that one counts.
use native.Mathlib.Omega.{arith}
use Rattle.frames.proofs.RefusalPassedOn.{passed-on}
use Rattle.events.proofs.EventOutcomes.{applied-refused, applied-within, applied-counted}
use Rattle.events.proofs.calls.apply_rows.Goals as goal

pub edit_frame-requires : goal.edit_frame-requires
edit_frame-requires c =
    let a = c.args in
    let p = c.phy_offset-at.ensures in
    let w = applied-within a.setting a.file.now _ a.first.now a.low.now a.v _ _ _ c.requires.0 c.requires.1 (omega (arith, c.well_formed.1.1.1.1.0)) c.replug_rows.ensures.replug_done _ c.in_ok-moved.was in
    omega (arith, p, w)

pub returns-in_err-moved : goal.returns-in_err-moved
returns-in_err-moved c =
    let a = c.args in
    rw (passed-on c.from_residual.result _ c.from_residual.ensures)
    (applied-refused a.setting a.file.now _ a.first.now a.low.now a.v _ _ _ c.requires.0 c.requires.1 (omega (arith, c.well_formed.1.1.1.1.0)) c.replug_rows.ensures.replug_done _ c.in_err-moved.was)

pub returns : goal.returns
returns c =
    let a = c.args in
    applied-counted a.setting a.file.now _ a.first.now a.low.now a.v _ _ _ c.requires.0 c.requires.1 (omega (arith, c.well_formed.1.1.1.1.0)) c.replug_rows.ensures.replug_done _ c.in_ok-moved.was _ _ c.phy_offset-at.ensures c.edit_frame.ensures
