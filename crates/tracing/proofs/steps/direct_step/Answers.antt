-- direct_step meets its contract: the phy that (ii) picks bears the address, so it is attached; without one the table step follows.
use mathlib.Core.Path.{sym, ◌∙◌, ap}
use Rattle.tables.specs.WiringDefinitions.{Domain, domain_in}
use Rattle.tables.specs.filling.Entries.{entries, counted}
use Rattle.tracing.specs.Steps.{Step}
use Rattle.tracing.specs.Answers.{pick_answer, table_step}
use Rattle.tracing.proofs.PhyPicks.{bearing-attached, direct-at, direct-none}
use Rattle.tracing.proofs.steps.direct_step.Goals as goal

pub arrive_unless-requires : goal.arrive_unless-requires
arrive_unless-requires c =
    let a = c.args in
    let e = ap pick_answer (sym c.in-Some.is) ∙ c.pick_bearing.ensures in
    bearing-attached (domain_in a.d.now.rows.now) a.i.0 a.s e

pub returns-in-Some : goal.returns-in-Some
returns-in-Some c =
    let a = c.args in
    let d : Domain = domain_in a.d.now.rows.now in
    let after : Step = table_step d (counted (entries a.words.now a.bits.now)) a.i.0 a.came a.s in
    let e = ap pick_answer (sym c.in-Some.is) ∙ c.pick_bearing.ensures in
    c.arrive_unless.ensures ∙ direct-at d a.i.0 a.came after e

pub returns-in-None : goal.returns-in-None
returns-in-None c =
    let a = c.args in
    let d : Domain = domain_in a.d.now.rows.now in
    let after : Step = table_step d (counted (entries a.words.now a.bits.now)) a.i.0 a.came a.s in
    let e = ap pick_answer (sym c.in-None.is) ∙ c.pick_bearing.ensures in
    c.table_step.ensures ∙ direct-none d a.i.0 a.came after e
