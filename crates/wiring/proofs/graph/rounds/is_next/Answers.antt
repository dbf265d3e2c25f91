-- is_next meets its contract: the count of common bits is the number of neighbours in the set, tested as each cause tests it.
use mathlib.Core.Path.{refl, sym, ◌∙◌, ap}
use borrow.Author.Tests.{not-true, not-false}
use lib.Dec.{eqb}
use Rattle.wiring.specs.graph.RoundCauses.{round_cause}
use Rattle.wiring.proofs.graph.RoundSets.{next-by}
use Rattle.wiring.proofs.graph.rounds.is_next.Goals as goal

pub returns-then-not-has : goal.returns-then-not-has
returns-then-not-has c = sym (next-by _ _ _ _ (ap (λ k. eqb (round_cause k) 11) c.in-Strip.is) (sym c.has.ensures ∙ not-true _ c.if-not-has.true-raw) refl)

pub returns-then-has : goal.returns-then-has
returns-then-has c =
    sym (next-by _ _ _ _ (ap (λ k. eqb (round_cause k) 11) c.in-Strip.is) (sym c.has.ensures ∙ not-false _ c.if-not-has.false-raw) (sym c.has-in-Strip.ensures ∙ c.if-has.true))

pub returns-else-has : goal.returns-else-has
returns-else-has c =
    sym (next-by _ _ _ _ (ap (λ k. eqb (round_cause k) 11) c.in-Strip.is) (sym c.has.ensures ∙ not-false _ c.if-not-has.false-raw) (sym c.has-in-Strip.ensures ∙ c.if-has.false))

pub returns-then-has-2 : goal.returns-then-has-2
returns-then-has-2 c = sym (next-by _ _ _ _ (ap (λ k. eqb (round_cause k) 11) c.in-Reach.is) (sym c.has-in-Reach.ensures ∙ c.if-has-2.true) refl)

pub returns-else-has-2 : goal.returns-else-has-2
returns-else-has-2 c = sym (next-by _ _ _ _ (ap (λ k. eqb (round_cause k) 11) c.in-Reach.is) (sym c.has-in-Reach.ensures ∙ c.if-has-2.false) refl)
