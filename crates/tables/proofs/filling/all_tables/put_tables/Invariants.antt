use Prim.Native.Nat.{◌+◌, ◌-◌}
use mathlib.Core.Path.{◌≡◌}
use lib.ListN.{length}
use lib.Seq.{sets}
use Rattle.files.specs.Domain.{phy_at}
use Rattle.wiring.specs.phys.PhyCauses.{phy_places}
use Rattle.files.specs.Rows.{domain_in}
use Rattle.tables.specs.filling.Tables.{sizes}
use Rattle.tables.specs.lists.GrowingLists.{Grown, places_at}
use Rattle.tables.specs.lists.PreparedLists.{order_of, own_tables_of}
use Rattle.tables.proofs.filling.all_tables.put_tables.Given as goal

abbrev pub invariant-loop-p : goal.invariant-loop-p
invariant-loop-p l = (length l.order ≡ length l.initial.order)
    × (((l.kept.fields ≡ phy_at (domain_in l.d.levels.attached.rows.now) l.i.0 l.kept.phy.0) × Grown l.order l.order l.kept.count (order_of (domain_in l.d.levels.attached.rows.now) l.kept.fields))
    × ((length l.words ≡ length l.initial.words)
    × ((l.to + sizes (domain_in l.d.levels.attached.rows.now) (phy_places l.i.0 l.p (l.n - l.p)) ≡ l.at + sizes (domain_in l.d.levels.attached.rows.now) (places_at (domain_in l.d.levels.attached.rows.now) l.i.0))
    × (sets l.words l.to (own_tables_of (domain_in l.d.levels.attached.rows.now) (phy_places l.i.0 l.p (l.n - l.p)))
    ≡ sets l.initial.words l.at (own_tables_of (domain_in l.d.levels.attached.rows.now) (places_at (domain_in l.d.levels.attached.rows.now) l.i.0))))))
