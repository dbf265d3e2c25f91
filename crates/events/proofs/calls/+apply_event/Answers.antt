-- apply_event meets its contract: a file that states more than 64 expanders is refused as its first two bytes are, and each room is chosen for so many expanders. The measure is the number of bytes.
use mathlib.Core.Path.{sym}
use native.Mathlib.Omega.{arith}
use lib.Seq.{length-take-le}
use Rattle.events.proofs.EventOutcomes.{header_done}
use Rattle.events.proofs.calls.+apply_event.Goals as goal

pub slice_bounds-apply_event-end-then-file-gt2 : goal.slice_bounds-apply_event-end-then-file-gt2
slice_bounds-apply_event-end-then-file-gt2 t c =
    let at-args = c.args in
    sym (length-take-le 2 at-args.file.now (omega (arith, c.if-file-gt2.true)))

pub apply_event-requires : goal.apply_event-requires
apply_event-requires t c =
    let at_pre = c.requires in
    let at-args = c.args in
    (omega (arith, c.if-file-gt2.true, length-take-le 2 at-args.file.now (omega (arith, c.if-file-gt2.true))), tt)

pub returns-then-file-gt2 : goal.returns-then-file-gt2
returns-then-file-gt2 t c =
    let a = c.args in
    header_done a.setting a.file.now _ a.v _ _ _ c.if-file-gt2.true (omega (arith, c.stated_count-n.ensures, c.if-n-gt64.true)) c.apply_event.ensures
