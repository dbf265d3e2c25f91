use lib.ListN.{length}
use Rattle.benches.proofs.calls.+join.Given as goal

abbrev pub decreases-join : goal.decreases-join
decreases-join l = length l.first.now
