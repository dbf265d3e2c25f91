use lib.ListN.{length}
use Rattle.tracing.proofs.calls.+trace.Given as goal

abbrev pub decreases-trace : goal.decreases-trace
decreases-trace l = length l.file.now
