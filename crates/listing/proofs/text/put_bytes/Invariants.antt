use lib.ListN.{drop}
use Rattle.listing.proofs.BytesPut.{Going}
use Rattle.listing.proofs.text.put_bytes.Given as goal

abbrev pub invariant-loop-i : goal.invariant-loop-i
invariant-loop-i l = Going l.initial.out l.at l.text l.out l.to (drop l.i l.text)
