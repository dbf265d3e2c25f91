-- overlong_in meets its contract: the own lists are counted, the expanders downstream of each collected, and then every phy is tested.
use Rattle.tables.proofs.levels.LinkPhys.{attached-known}
use Rattle.tables.proofs.lists.overlong.overlong_in.Goals as goal

pub invariant_of-attached : goal.invariant_of-attached
invariant_of-attached c = record { attached = attached-known _ _ c.args.d.now.indexed.firsts }
