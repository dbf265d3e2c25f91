use mathlib.Core.Path.{◌≡◌}
use Rattle.files.specs.Lists.{any}
use Rattle.files.specs.Domain.{expander_at, bears}
use Rattle.files.specs.Rows.{domain_in}
use Rattle.tables.specs.lists.OwnLists.{lower}
use Rattle.tables.proofs.events.retesting.is_borne.Given as goal

abbrev pub invariant-loop-q : goal.invariant-loop-q
invariant-loop-q l = any (bears l.s) (lower (expander_at (domain_in l.rows) l.i.0).phys l.q) ≡ any (bears l.s) (lower (expander_at (domain_in l.rows) l.i.0).phys l.fn.p.0)
