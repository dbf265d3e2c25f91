use mathlib.Core.Path.{◌≡◌}
use lib.ListN.{length}
use Rattle.files.specs.Rows.{domain_in}
use Rattle.tables.specs.lists.PreparedLists.{Cells, downstream_once, downstream_bytes}
use Rattle.tables.proofs.levels.downstream.put_downstream.Given as goal

abbrev pub invariant-loop-i : goal.invariant-loop-i
invariant-loop-i l = (length l.downstream ≡ length l.initial.downstream) × Cells downstream_bytes (downstream_once (domain_in l.d.rows.now)) l.i l.downstream
