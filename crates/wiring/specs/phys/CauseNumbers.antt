-- The numbers of the causes that stand at one phy.
use Rattle.std.specs.Prelude.{ℕ}
use Rattle.wiring.specs.declared.phys.causes.PhyCause.{PhyCause}
use Rattle.wiring.specs.declared.phys.causes.PhyCause.TheVariants.{Unanswered, Claimed, Clashing, Fixed}

abbrev pub phy_cause : PhyCause → ℕ
phy_cause Unanswered = 7
phy_cause Claimed = 8
phy_cause Clashing = 9
phy_cause Fixed = 10
