-- index_with meets its contract: the tree has room for the slots of all expanders.
use Rattle.wiring.proofs.index.IndexWriting.{none_yet, no_lows}
use Rattle.wiring.proofs.index.addresses.index_with.Goals as goal

pub put_all-requires : goal.put_all-requires
put_all-requires g c = let pre = c.requires in (none_yet _ g.row.ROOTS g.row.CELLS _ pre.1.some pre.1.room pre.0.slots, no_lows _ _ pre.0.phys)
