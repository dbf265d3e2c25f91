use Prim.Native.Nat.{◌-◌}
use mathlib.Core.Path.{◌≡◌}
use Rattle.wiring.specs.phys.PhyCauses.{clashing, phy_places, first_in}
use Rattle.files.specs.Rows.{domain_in}
use Rattle.tables.specs.lists.GrowingLists.{places_at}
use Rattle.tables.proofs.events.retesting.first_clash.Given as goal

abbrev pub invariant-loop-p : goal.invariant-loop-p
invariant-loop-p l = first_in 9 (clashing (domain_in l.rows)) (phy_places l.e.0 l.p (l.n - l.p)) (domain_in l.rows) ≡ first_in 9 (clashing (domain_in l.rows)) (places_at (domain_in l.rows) l.e.0) (domain_in l.rows)
