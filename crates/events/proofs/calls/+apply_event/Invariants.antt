use lib.ListN.{length}
use Rattle.events.proofs.calls.+apply_event.Given as goal

abbrev pub decreases-apply_event : goal.decreases-apply_event
decreases-apply_event l = length l.file.now
