-- is_formed tests in the order of the definition.
use mathlib.Core.Path.{sym, ◌∙◌}
use borrow.Author.Tests.{not-true, not-false}
use Rattle.cards.proofs.CardPlaces.{formed-version, formed-zeros, formed-bad, formed-long, formed-fill}
use Rattle.cards.proofs.reading.is_formed.Goals as goal

pub returns-then-bits_at-ne2 : goal.returns-then-bits_at-ne2
returns-then-bits_at-ne2 c = formed-version c.args.card.now (λ z. c.if-bits_at-ne2.true (c.bits_at.ensures.0 ∙ z))

pub returns-then-bits_at-ne0 : goal.returns-then-bits_at-ne0
returns-then-bits_at-ne0 c = formed-zeros c.args.card.now (sym c.bits_at.ensures.0 ∙ c.if-bits_at-ne2.false) (λ z. c.if-bits_at-ne0.true (c.bits_at-2.ensures.0 ∙ z))

pub returns-then-not-fine : goal.returns-then-not-fine
returns-then-not-fine c =
    let at-args = c.args in
    let p = c.requires in
    formed-bad at-args.card.now (sym c.bits_at.ensures.0 ∙ c.if-bits_at-ne2.false) (sym c.bits_at-2.ensures.0 ∙ c.if-bits_at-ne0.false) (sym p.1.0 ∙ not-true _ c.if-not-fine.true-raw)

pub returns-then-card-at : goal.returns-then-card-at
returns-then-card-at c =
    let at-args = c.args in
    let p = c.requires in
    formed-long at-args.card.now (sym c.bits_at.ensures.0 ∙ c.if-bits_at-ne2.false) (sym c.bits_at-2.ensures.0 ∙ c.if-bits_at-ne0.false) (sym p.1.0 ∙ not-false _ c.if-not-fine.false-raw) _ p.1.1 c.if-card-at.true

pub returns : goal.returns
returns c =
    let at-args = c.args in
    let p = c.requires in
    formed-fill at-args.card.now (sym c.bits_at.ensures.0 ∙ c.if-bits_at-ne2.false) (sym c.bits_at-2.ensures.0 ∙ c.if-bits_at-ne0.false) (sym p.1.0 ∙ not-false _ c.if-not-fine.false-raw) _ p.1.1 _ c.if-card-at.false c.byte_from.ensures.0
