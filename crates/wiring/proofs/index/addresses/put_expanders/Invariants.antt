use Rattle.files.specs.Rows.{domain_in}
use Rattle.wiring.specs.index.AddressIndex.{FirstsTo, tells, EntriesKeptBut}
use Rattle.wiring.proofs.index.addresses.put_expanders.Given as goal

abbrev pub invariant-loop-j : goal.invariant-loop-j
invariant-loop-j l =
    FirstsTo (domain_in l.rows) l.j l.size l.cells l.first × EntriesKeptBut (tells (domain_in l.rows)) l.initial.first l.first
