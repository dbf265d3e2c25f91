-- cause_holds meets its contract: one test for each cause.
use Rattle.wiring.specs.phys.Checks.{cause_of}
use Rattle.wiring.proofs.phys.causes.cause_holds.Goals as goal

pub returns-in-Unanswered : goal.returns-in-Unanswered
unfolding cause_of
returns-in-Unanswered c = rw c.in-Unanswered.is c.is_unanswered.ensures

pub returns-in-Claimed : goal.returns-in-Claimed
unfolding cause_of
returns-in-Claimed c = rw c.in-Claimed.is c.is_claimed.ensures

pub returns-in-Clashing : goal.returns-in-Clashing
unfolding cause_of
returns-in-Clashing c = rw c.in-Clashing.is c.is_clashing.ensures

pub returns-in-Fixed : goal.returns-in-Fixed
unfolding cause_of
returns-in-Fixed c = rw c.in-Fixed.is c.is_fixed.ensures
