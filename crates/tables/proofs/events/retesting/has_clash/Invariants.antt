use mathlib.Core.Path.{◌≡◌}
use lib.ListN.{take, drop}
use Rattle.files.specs.Lists.{any}
use Rattle.files.specs.Domain.{expander_at}
use Rattle.wiring.specs.phys.PhyCauses.{clash, clashing}
use Rattle.files.specs.Rows.{domain_in}
use Rattle.tables.proofs.events.retesting.has_clash.Given as goal

abbrev pub invariant-loop-q : goal.invariant-loop-q
invariant-loop-q l = any (clash l.f) (drop l.q (take l.fn.p.0 (expander_at (domain_in l.rows) l.i.0).phys)) ≡ clashing (domain_in l.rows) l.i.0 l.fn.p.0
