use lib.ListN.{length}
use Rattle.tables.proofs.calls.+give_tables.Given as goal

abbrev pub decreases-give_tables : goal.decreases-give_tables
decreases-give_tables l = length l.file.now
