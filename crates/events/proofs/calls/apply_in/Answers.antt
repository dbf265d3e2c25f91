-- apply_in meets its contract: the rows that the file is read into are its domain.
use mathlib.Core.Path.{sym}
use lib.Seq.{length-take-le}
use Rattle.frames.proofs.RefusalPassedOn.{passed-on}
use Rattle.wiring.proofs.FileRows.{opened_as, opened-fits}
use Rattle.events.proofs.EventsByOwnLists.{refused-done}
use Rattle.events.proofs.calls.apply_in.Goals as goal

pub slice_bounds-apply_rows-end : goal.slice_bounds-apply_rows-end
slice_bounds-apply_rows-end c =
    opened-fits _ _ _ _ _ _ c.requires.rows c.read_domain.ensures c.in_ok-n.was c.read_domain.auto.rows

pub slice_bounds-apply_rows-end-2 : goal.slice_bounds-apply_rows-end-2
slice_bounds-apply_rows-end-2 c =
    sym (length-take-le _ c.read_domain.new.rows (opened-fits _ _ _ _ _ _ c.requires.rows c.read_domain.ensures c.in_ok-n.was c.read_domain.auto.rows))

pub apply_rows-requires : goal.apply_rows-requires
apply_rows-requires c =
    let o = opened_as _ _ _ _ _ _ c.requires.rows c.read_domain.ensures c.in_ok-n.was in
    (o.0, c.requires.index _ o.0)

pub returns-in_err-n : goal.returns-in_err-n
returns-in_err-n c =
    rw (passed-on c.from_residual.result _ c.from_residual.ensures) (refused-done _ _ _ _ _ (opened_as _ _ _ _ _ _ c.requires.rows c.read_domain.ensures c.in_err-n.was))
