use Prim.Native.Nat.{◌+◌, ◌-◌, ◌*◌}
use mathlib.Core.Path.{◌≡◌}
use lib.ListN.{length}
use lib.Seq.{sets}
use Rattle.files.specs.SecondReading.{phys_got}
use Rattle.files.specs.Rows.{phy_words}
use Rattle.files.proofs.rows.put_phys.Given as goal

abbrev pub invariant-loop-p : goal.invariant-loop-p
invariant-loop-p l =
    (length l.row ≡ length l.initial.row)
    × ((sets l.row (2 + 2 * l.p) (phy_words (phys_got l.file l.own_address l.i.0 (l.n - l.p) l.p l.next).value) ≡ sets l.initial.row 2 (phy_words (phys_got l.file l.own_address l.i.0 l.n 0 l.at).value))
    × ((phys_got l.file l.own_address l.i.0 (l.n - l.p) l.p l.next).next ≡ (phys_got l.file l.own_address l.i.0 l.n 0 l.at).next))
