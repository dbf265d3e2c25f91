-- first_clash meets its contract. The loop's invariant: no phy below p clashes with a lower one.
use mathlib.Core.Path.{sym, ◌∙◌, ap}
use Rattle.files.specs.Domain.{Domain}
use Rattle.wiring.specs.phys.PhyCauses.{clashing}
use Rattle.files.specs.Rows.{domain_in}
use Rattle.wiring.proofs.phys.PlaceSearches.{phy-stop, phy-go, phy-end}
use Rattle.wiring.specs.phys.Checks.{check_answer}
use native.Mathlib.Omega.{arith}
use Rattle.wiring.specs.FrameDefinitions.{refused}
use Rattle.tables.proofs.events.retesting.first_clash.Goals as goal

pub returns-then-has_clash : goal.returns-then-has_clash
returns-then-has_clash c =
    let a = c.args in
    let d : Domain = domain_in a.rows.now in
    ap (check_answer d) (ap refused c.refusal_at.ensures) ∙ phy-stop 9 (clashing d) d a.e.0 c.phy_count-n.result c.loop-p.p c.loop-p.invariant (sym c.has_clash.ensures ∙ c.if-has_clash.true) (omega arith)

pub loop-p-preserved : goal.loop-p-preserved
loop-p-preserved c =
    let a = c.args in
    let d : Domain = domain_in a.rows.now in
    phy-go 9 (clashing d) d a.e.0 c.phy_count-n.result c.loop-p.p c.loop-p.invariant (sym c.has_clash.ensures ∙ c.if-has_clash.false) (omega arith)

pub returns : goal.returns
returns c =
    let a = c.args in
    let d : Domain = domain_in a.rows.now in
    phy-end 9 (clashing d) d a.e.0 c.phy_count-n.result c.loop-p.p c.loop-p.invariant (omega arith)
