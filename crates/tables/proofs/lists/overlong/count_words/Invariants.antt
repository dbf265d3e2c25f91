use Prim.Native.Nat.{◌+◌, ◌*◌, ◌≤◌}
use mathlib.Core.List.{flat_map}
use mathlib.Core.Path.{◌≡◌}
use lib.ListN.{length, drop}
use Rattle.files.specs.Rows.{domain_in}
use Rattle.tables.specs.lists.OwnLists.{own_words}
use Rattle.tables.proofs.lists.overlong.count_words.Given as goal

abbrev pub invariant-loop-k : goal.invariant-loop-k
invariant-loop-k l = (l.sum ≤ 128 * l.k)
    × (l.sum + length (flat_map (own_words (domain_in l.d.levels.attached.rows.now)) (drop l.k l.order)) ≡ length (flat_map (own_words (domain_in l.d.levels.attached.rows.now)) l.order))
