-- file_of_card tests in the order of the definition; the rows that the walk stored then hold the domain of the card.
use Prim.Native.Nat.{ℕ}
use mathlib.Core.Path.{refl, sym, ap, ◌∙◌}
use native.Mathlib.Omega.{arith}
use lib.ListN.{replicate, length-replicate}
use borrow.Author.Tests.{not-true, not-false}
use Rattle.files.specs.ReadDomain.{Bytes}
use Rattle.files.specs.Rows.{most_row_words}
use Rattle.cards.proofs.CallOutcomes.{file_out, file_unformed, file-many, file-refused, file-made, rows_hold_lem, count-on}
use Rattle.frames.proofs.RefusalPassedOn.{passed-on}
use Rattle.frames.specs.Refusals.{refused}
use Rattle.cards.proofs.file_call.file_of_card.Goals as goal

pub returns-then-not-is_in_range : goal.returns-then-not-is_in_range
returns-then-not-is_in_range c =
    let a = c.args in
    file_out a.setting a.card.now a.file.now _ (sym c.is_in_range.ensures ∙ not-true _ c.if-not-is_in_range.true-raw) (ap refused c.refused.ensures)

pub returns-then-not-is_formed : goal.returns-then-not-is_formed
returns-then-not-is_formed c =
    let a = c.args in
    let o = sym c.is_in_range.ensures ∙ not-false _ c.if-not-is_in_range.false-raw in
    file_unformed a.setting a.card.now a.file.now o _ (sym c.is_formed.ensures ∙ not-true _ c.if-not-is_formed.true-raw) (ap refused c.refused-then-not-is_formed.ensures)

pub returns-then-not-is_within : goal.returns-then-not-is_within
returns-then-not-is_within c =
    let a = c.args in
    let o = sym c.is_in_range.ensures ∙ not-false _ c.if-not-is_in_range.false-raw in
    let q = sym c.is_formed.ensures ∙ not-false _ c.if-not-is_formed.false-raw in
    let k = count-on a.card.now _ c.expanders_from-n.ensures.0 in
    file-many a.setting a.card.now a.file.now o _ q k _ (sym c.is_within.ensures ∙ not-true _ c.if-not-is_within.true-raw) (ap refused c.refused-then-not-is_within.ensures)

pub returns-in_err-walk : goal.returns-in_err-walk
returns-in_err-walk c =
    let a = c.args in
    let o = sym c.is_in_range.ensures ∙ not-false _ c.if-not-is_in_range.false-raw in
    let q = sym c.is_formed.ensures ∙ not-false _ c.if-not-is_formed.false-raw in
    let k = count-on a.card.now _ c.expanders_from-n.ensures.0 in
    let w = sym c.is_within.ensures ∙ not-false _ c.if-not-is_within.false-raw in
    rw (passed-on c.from_residual.result _ c.from_residual.ensures) (file-refused a.setting a.card.now a.file.now o _ q k w c.walk_card-walk.result.check c.walk_card-walk.ensures.tests _ c.in_err-walk.was)

pub returns : goal.returns
returns c =
    let a = c.args in
    let o = sym c.is_in_range.ensures ∙ not-false _ c.if-not-is_in_range.false-raw in
    let q = sym c.is_formed.ensures ∙ not-false _ c.if-not-is_formed.false-raw in
    let k = count-on a.card.now _ c.expanders_from-n.ensures.0 in
    let w = sym c.is_within.ensures ∙ not-false _ c.if-not-is_within.false-raw in
    let f = c.walk_card-walk.ensures.tests in
    let g = c.in_ok-walk.was in
    let s : Bytes a.card.now = λ j. (c.shared_slice_known-1.given j).fits in
    let z = rows_hold_lem a.setting a.card.now a.file.now o _ q k w c.walk_card-walk.result.check f g s (replicate most_row_words 0) c.walk_card-walk.new.rows _ refl (omega (arith, c.expanders_from-n.ensures.1, length-replicate {A = ℕ} most_row_words 0)) c.walk_card-walk.ensures.words in
    file-made a.setting a.card.now a.file.now o _ q k w c.walk_card-walk.result.check f g s _ _ _ z c.file_of_rows.ensures
