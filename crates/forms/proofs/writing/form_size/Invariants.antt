use Prim.Native.Nat.{◌+◌, ◌*◌, ◌≤◌}
use mathlib.Core.Path.{◌≡◌}
use lib.ListN.{length, drop}
use Rattle.files.specs.Rows.{domain_in, row_words}
use Rattle.forms.specs.Form.{form_expanders, form_of}
use Rattle.forms.proofs.writing.form_size.Given as goal

abbrev pub invariant-loop-i : goal.invariant-loop-i
invariant-loop-i l = (l.sum ≤ row_words * l.i) × (l.sum + length (form_expanders (domain_in l.rows) (drop l.i (domain_in l.rows))) ≡ length (form_of (domain_in l.rows)))
