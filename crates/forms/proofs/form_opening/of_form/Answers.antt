-- of_form is the definition's test of the number.
use mathlib.Core.Path.{sym, ◌∙◌}
use mathlib.Core.Logic.{inl, inr}
use Rattle.forms.proofs.BadPlaces.{late-stays, early_one}
use native.Mathlib.Omega.{arith}
use Rattle.forms.proofs.form_opening.of_form.Goals as goal

pub returns-then-r-lt15 : goal.returns-then-r-lt15
returns-then-r-lt15 c = c.refused.ensures ∙ sym (early_one c.args.r (inl (omega arith)))

pub returns-then-r-gt18 : goal.returns-then-r-gt18
returns-then-r-gt18 c = c.refused-then-r-gt18.ensures ∙ sym (early_one c.args.r (inr (omega arith)))

pub returns : goal.returns
returns c = sym (late-stays c.args.r (omega arith, omega arith))
