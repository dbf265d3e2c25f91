use Prim.Native.Nat.{ℕ, ◌<◌}
use mathlib.Core.Path.{◌≡◌}
use mathlib.Core.Bool.{false}
use Rattle.wiring.specs.phys.CauseNumbers.{phy_cause}
use Rattle.wiring.specs.phys.Checks.{cause_of}
use Rattle.files.specs.Rows.{domain_in}
use Rattle.wiring.proofs.phys.causes.first_phy.Given as goal

abbrev pub invariant-loop-p : goal.invariant-loop-p
invariant-loop-p l = (q : ℕ) → q < l.p → cause_of (phy_cause l.cause) (domain_in l.d.rows.now) l.i.0 q ≡ false
