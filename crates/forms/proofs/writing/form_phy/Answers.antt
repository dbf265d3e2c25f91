-- form_phy writes each case of a phy; who is attached, the entries tell.
use mathlib.Core.Path.{sym, ◌∙◌, subst}
use Rattle.files.specs.Domain.{phy_at}
use Rattle.files.specs.Rows.{domain_in}
use Rattle.forms.specs.FormRows.{SmallPhy}
use Rattle.forms.proofs.WordsCompared.{rows-small}
use Rattle.forms.proofs.FormWords.{field-vacant, field-low, field-far, attached-expander}
use native.Mathlib.Omega.{arith}
use Rattle.forms.proofs.writing.form_phy.Goals as goal

pub pack-requires : goal.pack-requires
pack-requires c =
    let at-args = c.args in
    let h = subst SmallPhy (sym c.phy_at.ensures ∙ c.in-Present.is) (rows-small at-args.rows.now at-args.i.0 at-args.p.0) in (h.0, (h.1.0, omega arith))

pub returns-then-x-lt2 : goal.returns-then-x-lt2
returns-then-x-lt2 c =
    let at-args = c.args in
    field-low (domain_in at-args.rows.now) (phy_at (domain_in at-args.rows.now) at-args.i.0 at-args.p.0) _ (sym c.phy_at.ensures ∙ c.in-Present.is) _ (omega arith) c.pack.ensures

pub pack-requires-in-Present : goal.pack-requires-in-Present
pack-requires-in-Present c =
    let at-args = c.args in
    let at_pre = c.requires in
    let h = subst SmallPhy (sym c.phy_at.ensures ∙ c.in-Present.is) (rows-small at-args.rows.now at-args.i.0 at-args.p.0) in (h.0, (h.1.0, (attached-expander at-args.rows.now at-args.first.now at-args.i.0 at-args.p.0 _ _ (at_pre) (sym c.phy_at.ensures ∙ c.in-Present.is) (omega arith) c.attached_expander-n.ensures).1))

pub returns-in-Vacant : goal.returns-in-Vacant
returns-in-Vacant c = field-vacant (domain_in c.args.rows.now) (phy_at (domain_in c.args.rows.now) c.args.i.0 c.args.p.0) _ (sym c.phy_at.ensures ∙ c.in-Vacant.is)

pub returns-else-x-lt2 : goal.returns-else-x-lt2
returns-else-x-lt2 c =
    let at-args = c.args in
    let at_pre = c.requires in
    field-far (domain_in at-args.rows.now) (phy_at (domain_in at-args.rows.now) at-args.i.0 at-args.p.0) _ (sym c.phy_at.ensures ∙ c.in-Present.is) _ _ (omega arith) (attached-expander at-args.rows.now at-args.first.now at-args.i.0 at-args.p.0 _ _ (at_pre) (sym c.phy_at.ensures ∙ c.in-Present.is) (omega arith) c.attached_expander-n.ensures).0 c.pack-in-Present.ensures
