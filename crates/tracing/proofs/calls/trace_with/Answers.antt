-- trace_with meets its contract: there is room for what the file states.
use Rattle.wiring.proofs.FileRows.{room-for}
use Rattle.tracing.proofs.calls.trace_with.Goals as goal

pub trace_in-requires : goal.trace_in-requires
trace_in-requires g c = room-for c.args.setting c.args.file.now _ _ _ c.requires
