use lib.ListN.{length}
use Rattle.forms.proofs.making.+make_form.Given as goal

abbrev pub decreases-make_form : goal.decreases-make_form
decreases-make_form l = length l.file.now
