use Prim.Native.Nat.{◌-◌, ◌*◌}
use mathlib.Core.Path.{◌≡◌}
use lib.ListN.{length}
use lib.Seq.{sets}
use Rattle.files.specs.SecondReading.{domain_got}
use Rattle.files.specs.Rows.{rows_of, row_words}
use Rattle.files.proofs.rows.fill_rows.Given as goal

abbrev pub invariant-loop-i : goal.invariant-loop-i
invariant-loop-i l =
    (length l.rows ≡ length l.initial.rows)
    × (sets l.rows (row_words * l.i) (rows_of (domain_got l.most l.file (l.n - l.i) l.i l.at)) ≡ sets l.initial.rows 0 (rows_of (domain_got l.most l.file l.n 0 2)))
