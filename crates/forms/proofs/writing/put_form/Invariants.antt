use Prim.Native.Nat.{◌+◌}
use mathlib.Core.Path.{◌≡◌}
use lib.ListN.{length, drop}
use lib.Seq.{sets}
use Rattle.files.specs.Rows.{domain_in}
use Rattle.forms.specs.Form.{form_expanders, form_of}
use Rattle.forms.proofs.writing.put_form.Given as goal

abbrev pub invariant-loop-i : goal.invariant-loop-i
invariant-loop-i l = (length l.words ≡ length l.initial.words) × ((l.to + length (form_expanders (domain_in l.rows) (drop l.i (domain_in l.rows))) ≡ length (form_of (domain_in l.rows))) × (sets l.words l.to (form_expanders (domain_in l.rows) (drop l.i (domain_in l.rows))) ≡ sets l.initial.words 0 (form_of (domain_in l.rows))))
