-- trace_with meets its contract: there is room for as many expanders as the form reads as.
use Rattle.forms.proofs.FormCallOutcomes.{room-for}
use Rattle.forms.proofs.trace_calls.trace_with.Goals as goal

pub trace_in-requires : goal.trace_in-requires
trace_in-requires g c = room-for c.args.form.now _ _ _ _ c.requires.0.0 c.requires.0.1 c.requires.1
