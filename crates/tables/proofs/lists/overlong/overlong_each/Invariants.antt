use mathlib.Core.Path.{◌≡◌}
use lib.ListN.{length, drop}
use Rattle.wiring.specs.phys.PhyCauses.{places_from, first_in, first_of}
use Rattle.files.specs.Rows.{domain_in}
use Rattle.tables.specs.lists.PreparedLists.{own_overlong}
use Rattle.tables.proofs.lists.overlong.overlong_each.Given as goal

abbrev pub invariant-loop-i : goal.invariant-loop-i
invariant-loop-i l = (length l.order ≡ length l.initial.order) × (first_in 14 (own_overlong (domain_in l.d.levels.attached.rows.now)) (places_from l.i (drop l.i (domain_in l.d.levels.attached.rows.now))) (domain_in l.d.levels.attached.rows.now) ≡ first_of 14 (own_overlong (domain_in l.d.levels.attached.rows.now)) (domain_in l.d.levels.attached.rows.now))
