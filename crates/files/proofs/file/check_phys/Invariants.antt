use Prim.Native.Nat.{◌-◌}
use mathlib.Core.Path.{◌≡◌}
use Rattle.files.specs.File.{phy_units}
use Rattle.files.specs.UnitAnswers.{phys_next}
use Rattle.files.proofs.file.check_phys.Given as goal

abbrev pub invariant-loop-p : goal.invariant-loop-p
invariant-loop-p l = phys_next (phy_units l.file l.own_address l.i.0 (l.n - l.p) l.p l.next) ≡ phys_next (phy_units l.file l.own_address l.i.0 l.n 0 l.at)
