use Rattle.files.specs.Rows.{domain_in}
use Rattle.wiring.specs.index.AddressIndex.{LowsTo, attached_at, EntriesKeptBut}
use Rattle.wiring.proofs.index.addresses.put_low.Given as goal

abbrev pub invariant-loop-p : goal.invariant-loop-p
invariant-loop-p l =
    LowsTo (domain_in l.rows) l.i.0 l.p l.cells l.low × EntriesKeptBut (attached_at (domain_in l.rows)) l.initial.low l.low
