use Prim.Native.Nat.{◌*◌, ◌≤◌}
use mathlib.Core.Path.{◌≡◌}
use lib.ListN.{drop}
use Rattle.files.specs.Rows.{domain_in, row_words}
use Rattle.forms.specs.FormRows.{right_expanders}
use Rattle.forms.proofs.comparing.are_right.Given as goal

abbrev pub invariant-loop-i : goal.invariant-loop-i
invariant-loop-i l = (l.at ≤ row_words * l.i) × (right_expanders (domain_in l.rows) (drop l.i (domain_in l.rows)) l.at l.ws ≡ right_expanders (domain_in l.rows) (domain_in l.rows) 0 l.ws)
