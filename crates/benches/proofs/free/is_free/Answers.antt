-- is_free goes by the tests of the definition.
use mathlib.Core.Path.{refl, sym, ◌∙◌, ap}
use mathlib.Core.Bool.{not}
use borrow.Author.Tests.{eq-eqb, ne_eqb}
use Rattle.files.specs.Domain.{type_of, attribute_of}
use Rattle.files.specs.Rows.{domain_in}
use Rattle.benches.proofs.JoinOutcomes.{free-by}
use Rattle.benches.proofs.free.is_free.Goals as goal

pub returns-then-phy_attribute-ne1 : goal.returns-then-phy_attribute-ne1
returns-then-phy_attribute-ne1 c = sym (free-by (domain_in c.args.rows.now) c.args.i.0 c.args.p.0 (ne_eqb _ 1 (λ z. c.if-phy_attribute-ne1.true ((c.phy_attribute.ensures ∙ ap attribute_of c.phy_at-f.ensures) ∙ z))) refl refl)

pub returns-then-phy_type-ne0 : goal.returns-then-phy_type-ne0
returns-then-phy_type-ne0 c =
    let at-args = c.args in
    sym (free-by (domain_in at-args.rows.now) at-args.i.0 at-args.p.0 (eq-eqb _ 1 (sym (c.phy_attribute.ensures ∙ ap attribute_of c.phy_at-f.ensures) ∙ c.if-phy_attribute-ne1.false)) (ap not (ne_eqb _ 0 (λ z. c.if-phy_type-ne0.true ((c.phy_type.ensures ∙ ap type_of c.phy_at-f.ensures) ∙ z)))) refl)

pub returns : goal.returns
returns c =
    let at-args = c.args in
    sym (free-by (domain_in at-args.rows.now) at-args.i.0 at-args.p.0 (eq-eqb _ 1 (sym (c.phy_attribute.ensures ∙ ap attribute_of c.phy_at-f.ensures) ∙ c.if-phy_attribute-ne1.false)) (ap not (eq-eqb _ 0 (sym (c.phy_type.ensures ∙ ap type_of c.phy_at-f.ensures) ∙ c.if-phy_type-ne0.false))) (sym c.has_upward.ensures))
