-- trace_in meets its contract: the rows that the file is read into are its domain, and there is room for the entries.
use mathlib.Core.Path.{sym}
use lib.Seq.{length-take-le}
use Rattle.frames.proofs.RefusalPassedOn.{passed-on}
use Rattle.tables.proofs.WiringLemmas.{opened_as, opened-fits}
use Rattle.tables.proofs.lists.LevelListsByOwn.{judged_own}
use Rattle.tracing.proofs.RequestCauses.{call-refused, call-done}
use Rattle.tracing.proofs.calls.trace_in.Goals as goal

pub slice_bounds-request_rows-end : goal.slice_bounds-request_rows-end
slice_bounds-request_rows-end c =
    let at_pre = c.requires in
    opened-fits _ _ _ _ _ _ at_pre.rows c.read_domain.ensures c.in_ok-n.was c.read_domain.auto.rows

pub slice_bounds-request_rows-end-2 : goal.slice_bounds-request_rows-end-2
slice_bounds-request_rows-end-2 c =
    let at_pre = c.requires in
    sym (length-take-le _ c.read_domain.new.rows (opened-fits _ _ _ _ _ _ at_pre.rows c.read_domain.ensures c.in_ok-n.was c.read_domain.auto.rows))

pub returns-in_err-n : goal.returns-in_err-n
returns-in_err-n c =
    let at_pre = c.requires in
    rw (passed-on c.from_residual.result _ c.from_residual.ensures) (call-refused _ _ _ _ _ _ (opened_as _ _ _ _ _ _ at_pre.rows c.read_domain.ensures c.in_err-n.was))

pub returns : goal.returns
returns c =
    let at_pre = c.requires in
    let o = opened_as _ _ _ _ _ _ at_pre.rows c.read_domain.ensures c.in_ok-n.was in
    call-done _ _ _ _ _ _ _ _ _ _ o.0 (judged_own _ _ _ _ _ o.0 (at_pre.index _ o.0)) c.request_rows.ensures.trace_done
