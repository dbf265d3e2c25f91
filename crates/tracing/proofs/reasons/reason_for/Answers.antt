-- reason_for is the definition's choice: (i), the phy that (ii) picks, or what comes after.
use Prim.Native.Nat.{ℕ}
use mathlib.Core.Path.{sym, ◌∙◌, ap}
use Rattle.tables.specs.WiringDefinitions.{Domain, domain_in}
use Rattle.tables.specs.filling.Entries.{entries, counted}
use Rattle.tracing.specs.Answers.{pick_answer, listing_pick, subtracting_pick}
use Rattle.tracing.specs.Reasons.{by_subtraction, by_entry}
use Rattle.tracing.proofs.StepRules.{reason-here, reason-phy, reason-on}
use Rattle.tracing.proofs.reasons.reason_for.Goals as goal

pub returns-then-expander_address-s : goal.returns-then-expander_address-s
returns-then-expander_address-s c =
    let a = c.args in
    c.told.ensures ∙ reason-here (domain_in a.rows.now) (counted (entries a.words.now a.bits.now)) a.i.0 a.arrival.0 a.s (sym c.expander_address.ensures ∙ c.if-expander_address-s.true)

pub returns-in-Some : goal.returns-in-Some
returns-in-Some c =
    let a = c.args in
    c.told-in-Some.ensures ∙ reason-phy (domain_in a.rows.now) (counted (entries a.words.now a.bits.now)) a.i.0 a.arrival.0 a.s
    (λ e. c.if-expander_address-s.false (c.expander_address.ensures ∙ e)) (ap pick_answer (sym c.in-Some.is) ∙ c.pick_bearing.ensures)

pub returns-in-None : goal.returns-in-None
returns-in-None c =
    let a = c.args in
    let d : Domain = domain_in a.rows.now in
    let w = counted (entries a.words.now a.bits.now) in
    c.table_reason.ensures
    ∙ ap (λ (x : ℕ). by_entry d w a.i.0 a.s (listing_pick d w a.i.0 a.s) (by_subtraction d a.i.0 x (subtracting_pick d a.i.0))) c.came_from.ensures
    ∙ reason-on d w a.i.0 a.arrival.0 a.s (λ e. c.if-expander_address-s.false (c.expander_address.ensures ∙ e)) (ap pick_answer (sym c.in-None.is) ∙ c.pick_bearing.ensures)
