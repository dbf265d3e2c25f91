use Prim.Native.Nat.{◌-◌}
use mathlib.Core.List.{[]}
use mathlib.Core.Path.{◌≡◌}
use lib.ListN.{length, take}
use Rattle.frames.specs.Refusals.{then}
use Rattle.files.proofs.UnitReading.{count_from}
use Rattle.files.specs.File.{expanders}
use Rattle.files.specs.Rows.{count_of}
use Rattle.files.proofs.file.check_expanders.Given as goal

abbrev pub invariant-loop-i : goal.invariant-loop-i
invariant-loop-i l = (length l.used ≡ 256) × (then (expanders l.most l.file (l.n - l.i) l.i l.at (take l.i l.used)) (count_from l.i) ≡ then (expanders l.most l.file l.n 0 2 []) count_of)
