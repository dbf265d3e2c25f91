use lib.ListN.{length}
use Rattle.files.specs.Rows.{domain_in}
use Rattle.wiring.specs.index.AddressIndex.{address_from}
use Rattle.wiring.proofs.index.SearchTrees.{Going, left}
use Rattle.wiring.proofs.index.addresses.find.Given as goal

abbrev pub invariant-loop-v : goal.invariant-loop-v
invariant-loop-v l = Going (address_from (domain_in l.rows) l.from) l.size l.cells l.s l.bits l.c l.v

abbrev pub decreases-loop-v : goal.decreases-loop-v
decreases-loop-v l = left (length l.cells) l.v
