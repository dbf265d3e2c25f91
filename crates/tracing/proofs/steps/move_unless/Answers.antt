-- move_unless meets its contract: the entry of phy p has the number of the expander that is attached to it.
use mathlib.Core.Path.{◌∙◌, ap}
use Rattle.tables.specs.WiringDefinitions.{domain_in, address_of, attached_phy_of}
use Rattle.tables.proofs.WiringLemmas.{far_in}
use Rattle.tracing.specs.Answers.{ended_here}
use Rattle.tracing.proofs.PhyPicks.{move_on}
use Rattle.tracing.proofs.steps.move_unless.Goals as goal

pub returns : goal.returns
returns c =
    let a = c.args in
    let e = c.phy_at-f.ensures in
    move_on (domain_in a.d.now.rows.now) a.i.0 a.p.0 a.came (ended_here a.back) (c.phy_address.ensures ∙ ap address_of e) c.if-phy_address-came.false
    (c.attached_expander.ensures ∙ far_in a.d.now.rows.now a.d.now.first.now a.i.0 a.p.0 a.d.now.indexed.firsts c.requires) (c.attached_phy.ensures ∙ ap attached_phy_of e)
