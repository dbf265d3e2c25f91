-- phy_of answers causes 5 and 6 of a phy, and else its fields: one return for each cause that holds, and one where none does.
use mathlib.Core.Path.{sym, ◌∙◌, ap}
use borrow.Author.Tests.{not-true, not-false}
use Rattle.frames.specs.Refusals.{good}
use Rattle.files.specs.declared.Phy.TheVariants.{Present}
use Rattle.files.specs.File.{parsed, ranged}
use Rattle.files.proofs.units.phy_of.Goals as goal

pub returns-then-not-is_placed : goal.returns-then-not-is_placed
returns-then-not-is_placed c =
    simp (sym c.is_placed.ensures ∙ not-true _ c.if-not-is_placed.true-raw, c.refusal_at.ensures)

pub returns-then-not-is_ranged : goal.returns-then-not-is_ranged
returns-then-not-is_ranged c =
    let r = ap ranged (sym c.fields_of-phy.ensures) ∙ sym c.is_ranged.ensures ∙ not-true _ c.if-not-is_ranged.true-raw in
    simp (sym c.is_placed.ensures ∙ not-false _ c.if-not-is_placed.false-raw, r, c.refusal_at-then-not-is_ranged.ensures)

pub returns : goal.returns
returns c =
    let r = ap ranged (sym c.fields_of-phy.ensures) ∙ sym c.is_ranged.ensures ∙ not-false _ c.if-not-is_ranged.false-raw in
    simp (sym c.is_placed.ensures ∙ not-false _ c.if-not-is_placed.false-raw, r)
    (ap (λ g. good (parsed (Present g) c.args.next)) c.fields_of-phy.ensures)
