-- wire_in meets its contract: the rows that the file is read into are its domain.
use mathlib.Core.Path.{sym}
use lib.Seq.{length-take-le}
use Rattle.frames.proofs.RefusalPassedOn.{passed-on}
use Rattle.wiring.proofs.CheckOutcomes.{wire-refused, wire-done}
use Rattle.wiring.proofs.FileRows.{opened_as, opened-fits}
use Rattle.wiring.proofs.wiring_call.wire_in.Goals as goal

pub slice_bounds-wire_rows-end : goal.slice_bounds-wire_rows-end
slice_bounds-wire_rows-end c =
    let at_pre = c.requires in
    opened-fits _ _ _ _ _ _ at_pre.rows c.read_domain.ensures c.in_ok-n.was c.read_domain.auto.rows

pub slice_bounds-wire_rows-end-2 : goal.slice_bounds-wire_rows-end-2
slice_bounds-wire_rows-end-2 c =
    let at_pre = c.requires in
    sym (length-take-le _ c.read_domain.new.rows (opened-fits _ _ _ _ _ _ at_pre.rows c.read_domain.ensures c.in_ok-n.was c.read_domain.auto.rows))

pub wire_rows-requires : goal.wire_rows-requires
wire_rows-requires c =
    let pre = c.requires in
    pre.index _ (opened_as _ _ _ _ _ _ pre.rows c.read_domain.ensures c.in_ok-n.was).0

pub returns-in_err-n : goal.returns-in_err-n
returns-in_err-n c =
    let at_pre = c.requires in
    rw (passed-on c.from_residual.result _ c.from_residual.ensures) (wire-refused _ _ _ _ (opened_as _ _ _ _ _ _ at_pre.rows c.read_domain.ensures c.in_err-n.was))

pub returns : goal.returns
returns c =
    let at_pre = c.requires in
    wire-done _ _ _ _ _ _ (opened_as _ _ _ _ _ _ at_pre.rows c.read_domain.ensures c.in_ok-n.was).0 c.wire_rows.ensures
