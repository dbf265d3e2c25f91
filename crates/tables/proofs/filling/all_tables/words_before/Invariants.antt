use Prim.Native.Nat.{◌*◌, ◌≤◌}
use mathlib.Core.Path.{◌≡◌}
use lib.ListN.{take}
use Rattle.wiring.specs.phys.PhyCauses.{places_from}
use Rattle.files.specs.Rows.{domain_in}
use Rattle.tables.specs.filling.Tables.{sizes}
use Rattle.tables.proofs.filling.all_tables.words_before.Given as goal

abbrev pub invariant-loop-j : goal.invariant-loop-j
invariant-loop-j l = (l.sum ≤ 8388608 * l.j) × (l.sum ≡ sizes (domain_in l.rows) (places_from 0 (take l.j (domain_in l.rows))))
