-- is_bad_phy asks the file's test of a phy that is not vacant.
use mathlib.Core.Path.{sym, ◌∙◌, ap}
use mathlib.Core.Bool.{not}
use Rattle.forms.specs.FormCalls.{bad_phy}
use Rattle.forms.proofs.testing.is_bad_phy.Goals as goal

pub returns-in-Present : goal.returns-in-Present
returns-in-Present c = ap not c.is_ranged.ensures ∙ sym (ap bad_phy c.in-Present.is)
