use Prim.Native.Nat.{◌-◌, ◌≤◌}
use mathlib.Core.List.{◌++◌}
use mathlib.Core.Path.{◌≡◌}
use lib.ListN.{length, take, drop, replicate}
use Rattle.tables.specs.filling.WordsChanged.{copied, Replaced}
use Rattle.tables.proofs.filling.table_filling.clear_from.Given as goal

abbrev pub invariant-loop-i : goal.invariant-loop-i
invariant-loop-i l =
    (length l.part ≡ length l.initial.part)
    × ((l.part ≡ (take l.initial.i l.initial.part ++ replicate (l.i - l.initial.i) 0) ++ drop l.i l.initial.part) × (Replaced (copied l.initial.i l.initial.sum) (copied l.i l.sum) l.initial.part l.part × (l.sum ≤ l.i)))
