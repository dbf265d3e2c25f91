use mathlib.Core.Path.{◌≡◌}
use lib.ListN.{length, take}
use Rattle.files.specs.Rows.{domain_in}
use Rattle.tables.proofs.levels.LevelOrders.{Queued}
use Rattle.tables.proofs.levels.order.put_order.Given as goal

abbrev pub invariant-loop-k : goal.invariant-loop-k
invariant-loop-k l = (length l.order ≡ length l.initial.order) × Queued (domain_in l.d.attached.rows.now) (take l.initial.m l.initial.order) l.turns l.k l.m l.order
