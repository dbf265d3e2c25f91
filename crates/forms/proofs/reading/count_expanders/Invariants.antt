use Prim.Native.Nat.{◌+◌, ◌-◌, ◌*◌, ◌≤◌}
use mathlib.Core.Path.{◌≡◌}
use lib.ListN.{length, drop}
use Rattle.files.specs.Rows.{row_words}
use Rattle.forms.specs.Form.{expanders_back, form_in}
use Rattle.forms.proofs.reading.count_expanders.Given as goal

abbrev pub invariant-loop-i : goal.invariant-loop-i
invariant-loop-i l = (l.at ≤ row_words * l.i) × (l.i + length (expanders_back (64 - l.i) (drop l.at l.ws)) ≡ length (form_in l.ws))
