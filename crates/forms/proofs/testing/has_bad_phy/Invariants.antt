use mathlib.Core.Path.{◌≡◌}
use lib.ListN.{drop}
use Rattle.files.specs.Lists.{any}
use Rattle.files.specs.Domain.{expander_at}
use Rattle.files.specs.Rows.{domain_in}
use Rattle.forms.specs.FormCalls.{bad_phy}
use Rattle.forms.proofs.testing.has_bad_phy.Given as goal

abbrev pub invariant-loop-p : goal.invariant-loop-p
invariant-loop-p l = any bad_phy (drop l.p (expander_at (domain_in l.rows) l.i.0).phys) ≡ any bad_phy (expander_at (domain_in l.rows) l.i.0).phys
