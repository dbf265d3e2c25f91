-- take_step meets its contract: the expander's own address first, and then the direct step.
use Prim.Native.Nat.{ℕ}
use mathlib.Core.Path.{sym, ◌∙◌, ap}
use borrow.Author.Tests.{eq-eqb, ne_eqb}
use Rattle.tables.specs.WiringDefinitions.{Domain, expander_at}
use Rattle.tables.specs.WiringDefinitions.{domain_in}
use Rattle.tables.specs.filling.Entries.{entries, counted}
use Rattle.tracing.specs.Answers.{step_of, direct_step}
use Rattle.tracing.proofs.PhyPicks.{step_by}
use Rattle.tracing.proofs.steps.take_step.Goals as goal

pub returns-then-expander_address-s : goal.returns-then-expander_address-s
returns-then-expander_address-s c =
    let a = c.args in
    let d : Domain = domain_in a.d.now.rows.now in
    let e = eq-eqb (expander_at d a.i.0).address a.s (sym c.expander_address.ensures ∙ c.if-expander_address-s.true) in
    sym (step_by d (counted (entries a.words.now a.bits.now)) a.i.0 a.arrival.0 a.s e)

pub returns : goal.returns
returns c =
    let a = c.args in
    let d : Domain = domain_in a.d.now.rows.now in
    let e = ne_eqb (expander_at d a.i.0).address a.s (λ e. c.if-expander_address-s.false (c.expander_address.ensures ∙ e)) in
    c.direct_step.ensures
    ∙ ap (λ (x : ℕ). step_of (direct_step d (counted (entries a.words.now a.bits.now)) a.i.0 x a.s)) c.came_from.ensures
    ∙ sym (step_by d (counted (entries a.words.now a.bits.now)) a.i.0 a.arrival.0 a.s e)
