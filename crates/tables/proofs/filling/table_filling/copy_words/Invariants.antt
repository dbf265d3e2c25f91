use Prim.Native.Nat.{◌+◌, ◌≤◌}
use mathlib.Core.List.{◌++◌}
use mathlib.Core.Path.{◌≡◌}
use lib.ListN.{length, take, drop}
use Rattle.tables.specs.filling.WordsChanged.{copied, Replaced}
use Rattle.tables.proofs.filling.table_filling.copy_words.Given as goal

abbrev pub invariant-loop-k : goal.invariant-loop-k
invariant-loop-k l = (l.to ≡ l.initial.to + l.k)
    × ((length l.part ≡ length l.initial.part)
    × ((take l.to l.part ++ drop l.k l.words ≡ take l.initial.to l.initial.part ++ l.words) × (Replaced (copied l.initial.to l.initial.sum) (copied l.to l.sum) l.initial.part l.part × (l.sum ≤ l.to))))
