use Prim.Native.Nat.{◌*◌, ◌≤◌}
use mathlib.Core.Path.{◌≡◌}
use lib.ListN.{length}
use Rattle.forms.proofs.FormRows.{Filled}
use Rattle.files.specs.Rows.{row_words}
use Rattle.forms.proofs.reading.read_rows.Given as goal

abbrev pub invariant-loop-i : goal.invariant-loop-i
invariant-loop-i l = (l.at ≤ row_words * l.i) × ((length l.rows ≡ length l.initial.rows) × Filled l.ws l.i l.at l.rows)
