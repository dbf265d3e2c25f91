-- is_unread meets its contract: a search from here on finds what the whole search finds.
use mathlib.Core.Path.{refl, sym, ◌∙◌, ap}
use native.Mathlib.Nat.{sub-zero}
use borrow.Author.Tests.{not-true, not-false}
use Rattle.files.specs.Settings.{within}
use Rattle.forms.proofs.BadPlaces.{numbers-stop, numbers-go, numbers-end, unread-none, unread-some}
use native.Mathlib.Omega.{arith}
use Rattle.forms.proofs.testing.is_unread.Goals as goal

pub returns-then-not-is_within : goal.returns-then-not-is_within
returns-then-not-is_within c = unread-none c.args.most _ (sym (ap (within c.args.most.expanders) c.expander_count-n.ensures.0) ∙ sym c.is_within.ensures ∙ not-true _ c.if-not-is_within.true-raw)

pub loop-i-init : goal.loop-i-init
loop-i-init c = rw sub-zero refl

pub returns-then-is_bad_unit : goal.returns-then-is_bad_unit
returns-then-is_bad_unit c =
    let at-args = c.args in
    unread-some at-args.most _ _ c.expander_count-n.ensures.0 (sym (ap (within at-args.most.expanders) c.expander_count-n.ensures.0) ∙ sym c.is_within.ensures ∙ not-false _ c.if-not-is_within.false-raw) (numbers-stop _ _ c.loop-i.i c.loop-i.invariant (omega arith) (sym c.is_bad_unit.ensures ∙ c.if-is_bad_unit.true))

pub loop-i-preserved : goal.loop-i-preserved
loop-i-preserved c = numbers-go _ _ c.loop-i.i c.loop-i.invariant (omega arith) (sym c.is_bad_unit.ensures ∙ c.if-is_bad_unit.false)

pub returns : goal.returns
returns c =
    let at-args = c.args in
    unread-some at-args.most _ _ c.expander_count-n.ensures.0 (sym (ap (within at-args.most.expanders) c.expander_count-n.ensures.0) ∙ sym c.is_within.ensures ∙ not-false _ c.if-not-is_within.false-raw) (numbers-end _ _ c.loop-i.i c.loop-i.invariant (omega arith))
