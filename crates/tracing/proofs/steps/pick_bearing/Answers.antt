-- pick_bearing meets its contract. The loop's invariant: none of the first p phys bears the address.
use mathlib.Core.Path.{sym, ◌∙◌, ap}
use native.Mathlib.Omega.{arith}
use Rattle.tables.specs.WiringDefinitions.{Domain, bears}
use Rattle.tables.specs.WiringDefinitions.{domain_in}
use Rattle.tracing.specs.Steps.{bearing}
use Rattle.tracing.proofs.PhyPicks.{pick-stop, pick-go, pick_end}
use Rattle.tracing.proofs.steps.pick_bearing.Goals as goal

pub returns-then-phy_bears : goal.returns-then-phy_bears
returns-then-phy_bears c =
    let a = c.args in
    let d : Domain = domain_in a.rows.now in
    let e = sym (c.phy_bears.ensures ∙ ap (bears a.s) c.phy_at.ensures) ∙ c.if-phy_bears.true in
    pick-stop (bearing d a.i.0 a.s) c.phy_count-n.result c.loop-p.p c.loop-p.invariant e (omega arith)

pub loop-p-preserved : goal.loop-p-preserved
loop-p-preserved c =
    let a = c.args in
    let d : Domain = domain_in a.rows.now in
    let e = sym (c.phy_bears.ensures ∙ ap (bears a.s) c.phy_at.ensures) ∙ c.if-phy_bears.false in
    pick-go (bearing d a.i.0 a.s) c.phy_count-n.result c.loop-p.p c.loop-p.invariant e (omega arith)

pub returns : goal.returns
returns c =
    let a = c.args in
    let d : Domain = domain_in a.rows.now in
    pick_end (bearing d a.i.0 a.s) c.phy_count-n.result c.loop-p.p c.loop-p.invariant (omega arith)
