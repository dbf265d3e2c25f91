use Prim.Native.Nat.{ℕ, ◌-◌, ◌<◌}
use mathlib.Core.Bool.{false}
use mathlib.Core.Path.{◌≡◌}
use lib.ListN.{length}
use Rattle.wiring.specs.phys.PhyCauses.{phy_places, first_in}
use Rattle.files.specs.Rows.{domain_in}
use Rattle.tables.specs.lists.GrowingLists.{places_at}
use Rattle.tables.specs.lists.PreparedLists.{own_overlong}
use Rattle.tables.proofs.lists.overlong.overlong_phy.Given as goal

abbrev pub invariant-loop-p : goal.invariant-loop-p
invariant-loop-p l = (length l.order ≡ length l.initial.order) × (((k : ℕ) → k < l.p → own_overlong (domain_in l.d.levels.attached.rows.now) l.i.0 k ≡ false) × (first_in 14 (own_overlong (domain_in l.d.levels.attached.rows.now)) (phy_places l.i.0 l.p (l.n - l.p)) (domain_in l.d.levels.attached.rows.now) ≡ first_in 14 (own_overlong (domain_in l.d.levels.attached.rows.now)) (places_at (domain_in l.d.levels.attached.rows.now) l.i.0) (domain_in l.d.levels.attached.rows.now)))
