use lib.ListN.{length}
use Rattle.forms.proofs.trace_calls.+form_trace.Given as goal

abbrev pub decreases-form_trace : goal.decreases-form_trace
decreases-form_trace l = length l.form.now
