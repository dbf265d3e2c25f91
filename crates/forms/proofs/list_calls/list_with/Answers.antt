-- list_with meets its contract: there is room for as many expanders as the form reads as.
use Rattle.forms.proofs.FormCallOutcomes.{room-for}
use Rattle.forms.proofs.list_calls.list_with.Goals as goal

pub list_in-requires : goal.list_in-requires
list_in-requires g c = room-for c.args.form.now _ _ _ _ c.requires.0.0 c.requires.0.1 c.requires.1
