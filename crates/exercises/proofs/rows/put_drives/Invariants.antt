use Prim.Native.Nat.{◌+◌, ◌*◌}
use mathlib.Core.Path.{◌≡◌}
use mathlib.Core.List.{map}
use lib.ListN.{drop}
use lib.Seq.{sets}
use Rattle.files.specs.Rows.{phy_words}
use Rattle.exercises.specs.Rig.{drive}
use Rattle.exercises.proofs.rows.put_drives.Given as goal

abbrev pub invariant-loop-k : goal.invariant-loop-k
invariant-loop-k l = sets l.row (4 + 2 * l.k) (phy_words (map drive (drop l.k l.words))) ≡ sets l.initial.row 4 (phy_words (map drive l.words))
