-- table_reason is the definition's choice over the phy that (iii) picks; the index is found from the start of its stretch.
use mathlib.Core.Path.{sym, ◌∙◌, ap}
use Rattle.tables.specs.WiringDefinitions.{Domain, domain_in}
use Rattle.tables.specs.filling.Entries.{entries, counted}
use Rattle.tracing.specs.Answers.{pick_answer, subtracting_pick}
use Rattle.tracing.specs.Reasons.{because, by_subtraction}
use Rattle.tracing.proofs.PhyPicks.{listing-range}
use Rattle.tracing.proofs.StepRules.{entry_at, entry-none, index-stretch}
use Rattle.tracing.proofs.reasons.table_reason.Goals as goal

pub stretch_start-at-requires : goal.stretch_start-at-requires
stretch_start-at-requires c =
    let at-args = c.args in
    listing-range (domain_in at-args.rows.now) at-args.i.0 (counted (entries at-args.words.now at-args.bits.now)) at-args.s
    (ap pick_answer (sym c.in-Some.is) ∙ c.pick_listing.ensures)

pub returns-in-Some : goal.returns-in-Some
returns-in-Some c =
    let a = c.args in
    let d : Domain = domain_in a.rows.now in
    let w = counted (entries a.words.now a.bits.now) in
    let e = ap pick_answer (sym c.in-Some.is) ∙ c.pick_listing.ensures in
    c.told.ensures ∙ ap (because 3 _) (c.index_of.ensures ∙ index-stretch d w a.i.0 _ a.s c.route_indexes.ensures c.stretch_start-at.ensures.0)
    ∙ entry_at d w a.i.0 a.s (by_subtraction d a.i.0 a.came (subtracting_pick d a.i.0)) e

pub returns-in-None : goal.returns-in-None
returns-in-None c =
    let a = c.args in
    let d : Domain = domain_in a.rows.now in
    c.subtractive_reason.ensures
    ∙ entry-none d (counted (entries a.words.now a.bits.now)) a.i.0 a.s (by_subtraction d a.i.0 a.came (subtracting_pick d a.i.0))
    (ap pick_answer (sym c.in-None.is) ∙ c.pick_listing.ensures)
