-- is_bad_unit is the definition's chain of tests in its order.
use mathlib.Core.Path.{refl, sym, ◌∙◌, ap}
use borrow.Author.Tests.{eq-eqb, ne_eqb, not-true, not-false}
use Rattle.files.specs.Domain.{expander_at, number_of}
use Rattle.files.specs.Settings.{within}
use Rattle.files.specs.Rows.{domain_in}
use Rattle.forms.proofs.BadPlaces.{unit-by}
use Rattle.forms.proofs.testing.is_bad_unit.Goals as goal

pub returns-then-not-is_within : goal.returns-then-not-is_within
returns-then-not-is_within c = sym (unit-by c.args.most (domain_in c.args.rows.now) c.args.i.0 (sym (ap (within c.args.most.phys) c.phy_count.ensures.0) ∙ sym c.is_within.ensures ∙ not-true _ c.if-not-is_within.true-raw) refl refl refl)

pub returns-then-s-eq0 : goal.returns-then-s-eq0
returns-then-s-eq0 c =
    let at-args = c.args in
    sym (unit-by at-args.most (domain_in at-args.rows.now) at-args.i.0 (sym (ap (within at-args.most.phys) c.phy_count.ensures.0) ∙ sym c.is_within.ensures ∙ not-false _ c.if-not-is_within.false-raw) (eq-eqb (expander_at (domain_in at-args.rows.now) at-args.i.0).address 0 (sym c.expander_address-s.ensures ∙ c.if-s-eq0.true)) refl refl)

pub returns-then-number_of-i : goal.returns-then-number_of-i
returns-then-number_of-i c =
    let at-args = c.args in
    sym (unit-by at-args.most (domain_in at-args.rows.now) at-args.i.0 (sym (ap (within at-args.most.phys) c.phy_count.ensures.0) ∙ sym c.is_within.ensures ∙ not-false _ c.if-not-is_within.false-raw) (ne_eqb (expander_at (domain_in at-args.rows.now) at-args.i.0).address 0 (λ z. c.if-s-eq0.false (c.expander_address-s.ensures ∙ z))) (ne_eqb (number_of (domain_in at-args.rows.now) (expander_at (domain_in at-args.rows.now) at-args.i.0).address) at-args.i.0 (λ z. c.if-number_of-i.true (c.number_of.ensures ∙ ap (number_of (domain_in at-args.rows.now)) c.expander_address-s.ensures ∙ z))) refl)

pub returns : goal.returns
returns c =
    let at-args = c.args in
    c.has_bad_phy.ensures ∙ sym (unit-by at-args.most (domain_in at-args.rows.now) at-args.i.0 (sym (ap (within at-args.most.phys) c.phy_count.ensures.0) ∙ sym c.is_within.ensures ∙ not-false _ c.if-not-is_within.false-raw) (ne_eqb (expander_at (domain_in at-args.rows.now) at-args.i.0).address 0 (λ z. c.if-s-eq0.false (c.expander_address-s.ensures ∙ z))) (eq-eqb (number_of (domain_in at-args.rows.now) (expander_at (domain_in at-args.rows.now) at-args.i.0).address) at-args.i.0 (sym (ap (number_of (domain_in at-args.rows.now)) c.expander_address-s.ensures) ∙ sym c.number_of.ensures ∙ c.if-number_of-i.false)) refl)
