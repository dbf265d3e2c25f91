-- apply_with meets its contract: there is room for what the file states.
use Rattle.wiring.proofs.FileRows.{room-for}
use Rattle.events.proofs.calls.apply_with.Goals as goal

pub apply_in-requires : goal.apply_in-requires
apply_in-requires g c = room-for c.args.setting c.args.file.now _ _ _ c.requires
