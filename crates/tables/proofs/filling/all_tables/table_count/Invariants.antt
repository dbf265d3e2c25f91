use Prim.Native.Nat.{◌+◌, ◌*◌, ◌≤◌}
use mathlib.Core.Path.{◌≡◌}
use lib.ListN.{length, drop}
use Rattle.wiring.specs.phys.PhyCauses.{places_from}
use Rattle.files.specs.Rows.{domain_in}
use Rattle.tables.specs.filling.Tables.{table_places}
use Rattle.tables.specs.lists.GrowingLists.{with_tables}
use Rattle.tables.proofs.filling.all_tables.table_count.Given as goal

abbrev pub invariant-loop-i : goal.invariant-loop-i
invariant-loop-i l = (l.sum ≤ 128 * l.i)
    × (l.sum + length (with_tables (domain_in l.rows) (places_from l.i (drop l.i (domain_in l.rows)))) ≡ length (table_places (domain_in l.rows)))
