use Prim.Native.Nat.{◌+◌, ◌-◌, ◌*◌}
use mathlib.Core.Path.{◌≡◌}
use lib.ListN.{length, drop}
use lib.Seq.{sets}
use Rattle.files.specs.Rows.{phy_words}
use Rattle.forms.specs.Form.{phys_back}
use Rattle.forms.proofs.reading.put_phys.Given as goal

abbrev pub invariant-loop-p : goal.invariant-loop-p
invariant-loop-p l = (length l.row ≡ length l.initial.row) × (sets l.row (2 + 2 * l.p) (phy_words (phys_back (l.n - l.p) (drop (l.from + 2 * l.p) l.ws))) ≡ sets l.initial.row 2 (phy_words (phys_back l.n (drop l.from l.ws))))
