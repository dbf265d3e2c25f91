-- table_step meets its contract: the phy that (iii) picks is attached to an expander; without one the subtractive step follows.
use mathlib.Core.Path.{sym, ◌∙◌, ap}
use Rattle.tables.specs.WiringDefinitions.{Domain, domain_in}
use Rattle.tables.specs.filling.Entries.{entries, counted}
use Rattle.tracing.specs.Answers.{pick_answer, subtractive_step}
use Rattle.tracing.proofs.PhyPicks.{listing-far, table_at, table_none}
use Rattle.tracing.proofs.steps.table_step.Goals as goal

pub move_unless-requires : goal.move_unless-requires
move_unless-requires c =
    let a = c.args in
    let e = ap pick_answer (sym c.in-Some.is) ∙ c.pick_listing.ensures in
    listing-far (domain_in a.d.now.rows.now) a.i.0 (counted (entries a.words.now a.bits.now)) a.s e

pub returns-in-Some : goal.returns-in-Some
returns-in-Some c =
    let a = c.args in
    let d : Domain = domain_in a.d.now.rows.now in
    let e = ap pick_answer (sym c.in-Some.is) ∙ c.pick_listing.ensures in
    table_at d a.i.0 a.came (subtractive_step d a.i.0 a.came) e c.move_unless.ensures

pub returns-in-None : goal.returns-in-None
returns-in-None c =
    let a = c.args in
    let d : Domain = domain_in a.d.now.rows.now in
    let e = ap pick_answer (sym c.in-None.is) ∙ c.pick_listing.ensures in
    c.subtractive_step.ensures ∙ table_none d a.i.0 a.came (subtractive_step d a.i.0 a.came) e
