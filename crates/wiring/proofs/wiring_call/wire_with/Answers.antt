-- wire_with meets its contract: there is room for what the file states.
use Rattle.wiring.proofs.FileRows.{room-for}
use Rattle.wiring.proofs.wiring_call.wire_with.Goals as goal

pub wire_in-requires : goal.wire_in-requires
wire_in-requires g c = room-for c.args.setting c.args.file.now _ _ _ c.requires
