use mathlib.Core.Path.{◌≡◌}
use lib.ListN.{drop}
use Rattle.wiring.specs.phys.PhyCauses.{places_from, first_in, first_of}
use Rattle.wiring.specs.phys.CauseNumbers.{phy_cause}
use Rattle.wiring.specs.phys.Checks.{cause_of}
use Rattle.files.specs.Rows.{domain_in}
use Rattle.wiring.proofs.phys.causes.first_of.Given as goal

abbrev pub invariant-loop-i : goal.invariant-loop-i
invariant-loop-i l = first_in (phy_cause l.cause) (cause_of (phy_cause l.cause) (domain_in l.d.rows.now)) (places_from l.i (drop l.i (domain_in l.d.rows.now))) (domain_in l.d.rows.now) ≡ first_of (phy_cause l.cause) (cause_of (phy_cause l.cause) (domain_in l.d.rows.now)) (domain_in l.d.rows.now)
