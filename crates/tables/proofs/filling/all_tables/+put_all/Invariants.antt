use lib.ListN.{length}
use Rattle.tables.proofs.filling.all_tables.+put_all.Given as goal

abbrev pub decreases-put_all : goal.decreases-put_all
decreases-put_all l = length l.d.now.rows.now
