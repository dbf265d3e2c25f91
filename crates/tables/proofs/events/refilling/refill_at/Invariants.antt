use mathlib.Core.Path.{◌≡◌}
use lib.ListN.{length}
use Rattle.files.specs.Domain.{phy_at}
use Rattle.wiring.specs.phys.PhyCauses.{phy_places}
use Rattle.files.specs.Rows.{domain_in}
use Rattle.tables.specs.filling.Entries.{entries}
use Rattle.tables.specs.lists.GrowingLists.{Grown}
use Rattle.tables.specs.lists.PreparedLists.{order_of}
use Rattle.tables.specs.events.TablesRewritten.{TallyBounds, Rewritten}
use Rattle.tables.proofs.events.refilling.refill_at.Given as goal

abbrev pub invariant-loop-p : goal.invariant-loop-p
invariant-loop-p l = (length l.order ≡ length l.initial.order) × (((l.kept.fields ≡ phy_at (domain_in l.d.levels.attached.rows.now) l.i.0 l.kept.phy.0) × Grown l.order l.order l.kept.count (order_of (domain_in l.d.levels.attached.rows.now) l.kept.fields)) × (TallyBounds l.p l.initial.t l.t × Rewritten (domain_in l.d.levels.attached.rows.now) l.e.0 (phy_places l.i.0 0 l.p) l.initial.t l.t (entries l.initial.words l.initial.bits) (entries l.words l.bits)))
