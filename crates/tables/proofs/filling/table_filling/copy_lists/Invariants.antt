use Prim.Native.Nat.{◌≤◌}
use mathlib.Core.List.{◌++◌, flat_map}
use mathlib.Core.Path.{◌≡◌}
use lib.ListN.{length, take, drop}
use Rattle.files.specs.Rows.{domain_in}
use Rattle.tables.specs.lists.OwnLists.{own_words}
use Rattle.tables.specs.filling.WordsChanged.{copied, Replaced}
use Rattle.tables.proofs.filling.table_filling.copy_lists.Given as goal

abbrev pub invariant-loop-k : goal.invariant-loop-k
invariant-loop-k l = (length l.part ≡ length l.initial.part)
    × ((l.s.at ≤ length l.initial.part)
    × ((take l.s.at l.part ++ flat_map (own_words (domain_in l.d.levels.attached.rows.now)) (drop l.k l.order) ≡ flat_map (own_words (domain_in l.d.levels.attached.rows.now)) l.order) × Replaced (copied 0 0) l.s l.initial.part l.part))
