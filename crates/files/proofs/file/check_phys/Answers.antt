-- check_phys meets its contract. The loop's invariant: reading the phys from p on at `next` ends where reading all of them ends.
use mathlib.Core.Path.{sym, ◌∙◌}
use native.Mathlib.Nat.{sub-zero}
use native.Mathlib.Omega.{arith}
use Rattle.frames.proofs.RefusalPassedOn.{passed-on}
use Rattle.files.proofs.UnitReading.{phys-stop, phys-go, phys-end}
use Rattle.files.proofs.file.check_phys.Goals as goal

pub loop-p-init : goal.loop-p-init
loop-p-init c = simp sub-zero

pub returns-in_err-unit : goal.returns-in_err-unit
returns-in_err-unit c =
    passed-on c.from_residual.result _ c.from_residual.ensures ∙ phys-stop _ _ _ _ _ _ c.loop-p.invariant (sym c.phy_unit.ensures ∙ c.in_err-unit.was) (omega arith)

pub loop-p-preserved : goal.loop-p-preserved
loop-p-preserved c =
    phys-go _ _ _ _ _ _ c.loop-p.invariant (sym c.phy_unit.ensures ∙ c.in_ok-unit.was) (omega arith)

pub returns : goal.returns
returns c = phys-end _ _ _ _ _ _ c.loop-p.invariant (omega arith)
