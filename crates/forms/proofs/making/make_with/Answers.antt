-- make_with meets its contract: there is room for what the file states.
use Rattle.wiring.proofs.FileRows.{room-for}
use Rattle.forms.proofs.making.make_with.Goals as goal

pub make_in-requires : goal.make_in-requires
make_in-requires g c = room-for c.args.setting c.args.file.now _ _ _ c.requires
