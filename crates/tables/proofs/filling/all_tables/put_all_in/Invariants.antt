use Prim.Native.Nat.{◌+◌}
use mathlib.Core.Path.{◌≡◌}
use lib.ListN.{length, drop}
use lib.Seq.{sets}
use Rattle.wiring.specs.phys.PhyCauses.{places_from}
use Rattle.files.specs.Rows.{domain_in}
use Rattle.tables.specs.filling.Tables.{sizes, needed}
use Rattle.tables.specs.lists.PreparedLists.{own_tables_of, own_tables}
use Rattle.tables.proofs.filling.all_tables.put_all_in.Given as goal

abbrev pub invariant-loop-i : goal.invariant-loop-i
invariant-loop-i l = (length l.order ≡ length l.initial.order)
    × ((length l.words ≡ length l.initial.words)
    × ((l.to + sizes (domain_in l.d.rows.now) (places_from l.i (drop l.i (domain_in l.d.rows.now))) ≡ needed (domain_in l.d.rows.now))
    × (sets l.words l.to (own_tables_of (domain_in l.d.rows.now) (places_from l.i (drop l.i (domain_in l.d.rows.now)))) ≡ sets l.initial.words 0 (own_tables (domain_in l.d.rows.now)))))
