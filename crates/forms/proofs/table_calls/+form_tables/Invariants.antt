use lib.ListN.{length}
use Rattle.forms.proofs.table_calls.+form_tables.Given as goal

abbrev pub decreases-form_tables : goal.decreases-form_tables
decreases-form_tables l = length l.form.now
