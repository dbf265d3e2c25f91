use Prim.Native.Nat.{◌+◌, ◌-◌, ◌≤◌}
use mathlib.Core.Path.{◌≡◌}
use lib.ListN.{length}
use Rattle.wiring.specs.phys.PhyCauses.{phy_places}
use Rattle.files.specs.Rows.{domain_in}
use Rattle.tables.specs.lists.GrowingLists.{with_tables}
use Rattle.tables.proofs.filling.all_tables.count_at.Given as goal

abbrev pub invariant-loop-p : goal.invariant-loop-p
invariant-loop-p l = (l.sum ≤ l.p)
    × (l.sum + length (with_tables (domain_in l.rows) (phy_places l.i.0 l.p (l.n - l.p))) ≡ length (with_tables (domain_in l.rows) (phy_places l.i.0 0 l.n)))
