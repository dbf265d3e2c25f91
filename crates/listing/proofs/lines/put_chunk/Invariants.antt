use Prim.Native.Nat.{◌≤◌}
use mathlib.Core.Path.{◌≡◌}
use lib.ListN.{length}
use Rattle.tables.specs.WiringDefinitions.{domain_in}
use Rattle.listing.specs.Lines.{entries_from}
use Rattle.listing.proofs.Cursors.{left}
use Rattle.listing.proofs.Chunks.{Putting}
use Rattle.listing.proofs.lines.put_chunk.Given as goal

abbrev pub invariant-loop-at : goal.invariant-loop-at
invariant-loop-at l =
    (l.end ≤ length l.out)
    × ((l.n ≡ length (domain_in l.rows)) × Putting l.words (entries_from (domain_in l.rows) l.initial.at) l.initial.at.word l.initial.out (entries_from (domain_in l.rows) l.at) l.at.word l.out l.end)

abbrev pub decreases-loop-at : goal.decreases-loop-at
decreases-loop-at l = left (domain_in l.rows) l.at
