use mathlib.Core.Path.{◌≡◌}
use lib.ListN.{drop}
use Rattle.files.specs.Lists.{any}
use Rattle.files.specs.Domain.{expander_at}
use Rattle.files.specs.Rows.{domain_in}
use Rattle.benches.specs.JoinCall.{upward}
use Rattle.benches.proofs.free.has_upward.Given as goal

abbrev pub invariant-loop-p : goal.invariant-loop-p
invariant-loop-p l = any upward (drop l.p (expander_at (domain_in l.rows) l.i.0).phys) ≡ any upward (expander_at (domain_in l.rows) l.i.0).phys
