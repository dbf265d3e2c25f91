use lib.ListN.{length}
use Rattle.tables.proofs.calls.+judge.Given as goal

abbrev pub decreases-judge : goal.decreases-judge
decreases-judge l = length l.file.now
