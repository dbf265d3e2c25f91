use lib.ListN.{length}
use Rattle.forms.proofs.list_calls.+form_list.Given as goal

abbrev pub decreases-form_list : goal.decreases-form_list
decreases-form_list l = length l.form.now
