use lib.ListN.{length}
use Rattle.wiring.proofs.index.addresses.+put_index.Given as goal

abbrev pub decreases-put_index : goal.decreases-put_index
decreases-put_index l = length l.rows.now
