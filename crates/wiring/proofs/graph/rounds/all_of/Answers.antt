-- all_of meets its contract: n ones, by shifting 64 of them.
use mathlib.Core.Path.{sym}
use Rattle.wiring.proofs.graph.RoundSets.{set_all, all-shifted}
use Rattle.wiring.proofs.graph.rounds.all_of.Goals as goal

pub returns-then-n-eq0 : goal.returns-then-n-eq0
returns-then-n-eq0 c = rw (← c.expander_count-n.ensures.0, c.if-n-eq0.true) (sym (set_all 0))

pub returns : goal.returns
returns c = rw (← c.expander_count-n.ensures.0) (all-shifted _ c.expander_count-n.ensures.1)
