use Prim.Native.Nat.{◌+◌, ◌*◌, ◌≤◌}
use mathlib.Core.Path.{◌≡◌}
use lib.ListN.{length, drop}
use Rattle.files.specs.Rows.{domain_in}
use Rattle.cards.specs.FileOf.{units_of}
use Rattle.cards.proofs.file_writing.file_size.Given as goal

abbrev pub invariant-loop-i : goal.invariant-loop-i
invariant-loop-i l =
    (l.size ≤ 2 + 6692 * l.i) × (l.size + length (units_of (drop l.i (domain_in l.rows))) ≡ 2 + length (units_of (domain_in l.rows)))
