use Prim.Native.Nat.{◌+◌, ◌*◌}
use mathlib.Core.Path.{◌≡◌}
use lib.ListN.{drop}
use Rattle.files.specs.Domain.{expander_at}
use Rattle.files.specs.Rows.{domain_in}
use Rattle.forms.specs.FormRows.{right_phys}
use Rattle.forms.proofs.comparing.are_right_phys.Given as goal

abbrev pub invariant-loop-p : goal.invariant-loop-p
invariant-loop-p l = (l.to ≡ l.fn.at + 2 * l.p) × (right_phys (domain_in l.rows) (drop l.p (expander_at (domain_in l.rows) l.i.0).phys) l.to l.ws ≡ right_phys (domain_in l.rows) (expander_at (domain_in l.rows) l.i.0).phys l.fn.at l.ws)
