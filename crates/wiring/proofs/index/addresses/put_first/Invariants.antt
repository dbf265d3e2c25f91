use Rattle.files.specs.Rows.{domain_in}
use Rattle.wiring.specs.index.AddressIndex.{slot_of, FirstsTo, tells, EntriesKeptBut}
use Rattle.wiring.proofs.index.addresses.put_first.Given as goal

abbrev pub invariant-loop-p : goal.invariant-loop-p
invariant-loop-p l =
    FirstsTo (domain_in l.rows) (slot_of l.i.0 l.p) l.size l.cells l.first × EntriesKeptBut (tells (domain_in l.rows)) l.initial.first l.first
