-- over_form keeps what is good, and gives a refusal as one over a form.
use mathlib.Core.Path.{sym, ◌∙◌, ap}
use Rattle.forms.specs.FormRows.{over_form}
use Rattle.frames.specs.Refusals.{refused}
use Rattle.forms.proofs.form_opening.over_form.Goals as goal

pub returns-in-Err : goal.returns-in-Err
returns-in-Err g c = ap refused c.of_form.ensures ∙ sym (ap over_form c.in-Err.is)

pub returns-in-Ok : goal.returns-in-Ok
returns-in-Ok g c = sym (ap over_form c.in-Ok.is)
