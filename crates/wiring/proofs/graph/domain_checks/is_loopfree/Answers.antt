-- is_loopfree meets its contract: the rounds leave the set of the definition's list, which is 0 where that is empty.
use Rattle.wiring.proofs.graph.RoundSets.{all-below, loopfree-word}
use Rattle.wiring.proofs.graph.domain_checks.is_loopfree.Goals as goal

pub run_rounds-requires : goal.run_rounds-requires
run_rounds-requires c = rw c.all_of-all.ensures (all-below _)

pub returns : goal.returns
returns c = loopfree-word _ c.run_rounds.result (rw (c.all_of-all.ensures, c.expander_count-n.ensures.0) at c.run_rounds.ensures)
