-- pick_subtracting meets its contract. The loop's invariant: none of the first p phys is a subtractive one at an expander.
use mathlib.Core.Path.{sym, ◌∙◌, ap}
use native.Mathlib.Omega.{arith}
use mathlib.Core.Bool.{◌&&◌}
use Rattle.tables.specs.WiringDefinitions.{Phy}
use Rattle.tables.specs.WiringDefinitions.{Domain, is_subtractive, to_expander}
use Rattle.tables.specs.WiringDefinitions.{domain_in}
use Rattle.tracing.specs.Steps.{subtracting}
use Rattle.tracing.proofs.PhyPicks.{pick-stop, pick-go, pick_end}
use Rattle.tracing.proofs.steps.pick_subtracting.Goals as goal

pub returns-then-is_subtracting : goal.returns-then-is_subtracting
returns-then-is_subtracting c =
    let a = c.args in
    let d : Domain = domain_in a.rows.now in
    let e = sym (c.is_subtracting.ensures ∙ ap (λ (φ : Phy). to_expander φ && is_subtractive φ) c.phy_at.ensures) ∙ c.if-is_subtracting.true in
    pick-stop (subtracting d a.i.0) c.phy_count-n.result c.loop-p.p c.loop-p.invariant e (omega arith)

pub loop-p-preserved : goal.loop-p-preserved
loop-p-preserved c =
    let a = c.args in
    let d : Domain = domain_in a.rows.now in
    let e = sym (c.is_subtracting.ensures ∙ ap (λ (φ : Phy). to_expander φ && is_subtractive φ) c.phy_at.ensures) ∙ c.if-is_subtracting.false in
    pick-go (subtracting d a.i.0) c.phy_count-n.result c.loop-p.p c.loop-p.invariant e (omega arith)

pub returns : goal.returns
returns c =
    let a = c.args in
    let d : Domain = domain_in a.rows.now in
    pick_end (subtracting d a.i.0) c.phy_count-n.result c.loop-p.p c.loop-p.invariant (omega arith)
