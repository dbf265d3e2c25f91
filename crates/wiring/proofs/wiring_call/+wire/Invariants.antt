use lib.ListN.{length}
use Rattle.wiring.proofs.wiring_call.+wire.Given as goal

abbrev pub decreases-wire : goal.decreases-wire
decreases-wire l = length l.file.now
