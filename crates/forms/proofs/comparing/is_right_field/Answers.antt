-- is_right_field compares each case of a phy.
use mathlib.Core.Path.{sym, ◌∙◌, ap, subst}
use Rattle.files.specs.declared.Phy.{Phy}
use Rattle.files.specs.Rows.{domain_in}
use Rattle.forms.specs.FormRows.{SmallPhy, right_field}
use Rattle.forms.proofs.comparing.is_right_field.Goals as goal

pub is_right_present-requires : goal.is_right_present-requires
is_right_present-requires c = subst SmallPhy c.in-Present.is (c.requires)

pub returns-in-Vacant : goal.returns-in-Vacant
returns-in-Vacant c = sym (ap (λ (φ : Phy). right_field (domain_in c.args.rows.now) φ c.args.v) c.in-Vacant.is)

pub returns-in-Present : goal.returns-in-Present
returns-in-Present c = c.is_right_present.ensures ∙ sym (ap (λ (φ : Phy). right_field (domain_in c.args.rows.now) φ c.args.v) c.in-Present.is)
