use Rattle.files.specs.Rows.{domain_in}
use Rattle.wiring.specs.index.AddressIndex.{slots_before, FirstsTo, LowsBefore, tells, attached_at, EntriesKeptBut}
use Rattle.wiring.proofs.index.addresses.put_all.Given as goal

abbrev pub invariant-loop-i : goal.invariant-loop-i
invariant-loop-i l =
    (FirstsTo (domain_in l.rows) (slots_before l.i) l.size l.cells l.first × EntriesKeptBut (tells (domain_in l.rows)) l.initial.first l.first)
    × (LowsBefore (domain_in l.rows) l.i l.low × EntriesKeptBut (attached_at (domain_in l.rows)) l.initial.low l.low)
