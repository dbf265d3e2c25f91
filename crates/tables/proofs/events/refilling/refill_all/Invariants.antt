use Prim.Native.Nat.{◌*◌}
use mathlib.Core.Path.{◌≡◌}
use lib.ListN.{length, take}
use Rattle.frames.proofs.PackedRows.{Bytes}
use Rattle.wiring.specs.phys.PhyCauses.{places_from}
use Rattle.files.specs.Rows.{domain_in}
use Rattle.tables.specs.filling.Entries.{entries}
use Rattle.tables.specs.events.TablesRewritten.{TallyBounds, Rewritten}
use Rattle.tables.proofs.events.refilling.refill_all.Given as goal

abbrev pub invariant-loop-i : goal.invariant-loop-i
invariant-loop-i l = (length l.order ≡ length l.initial.order) × (Bytes l.bits × (TallyBounds (128 * l.i) l.initial.s l.s × Rewritten (domain_in l.d.levels.attached.rows.now) l.e.0 (places_from 0 (take l.i (domain_in l.d.levels.attached.rows.now))) l.initial.s l.s (entries l.initial.words l.initial.bits) (entries l.words l.bits)))
