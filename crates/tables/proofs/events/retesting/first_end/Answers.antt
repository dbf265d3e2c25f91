-- first_end meets its contract. The loop's invariant: no phy below p is attached to such an end device.
use mathlib.Core.Path.{sym, ◌∙◌, ap}
use Rattle.files.proofs.RowsAsDomain.{phy-held}
use Rattle.files.specs.Domain.{Domain}
use Rattle.files.specs.Rows.{domain_in}
use Rattle.wiring.proofs.phys.PlaceSearches.{phy-stop, phy-go, phy-end}
use Rattle.tables.specs.events.EndDeviceTests.{is_end, ends_at}
use Rattle.wiring.specs.phys.Checks.{check_answer}
use native.Mathlib.Omega.{arith}
use Rattle.wiring.specs.FrameDefinitions.{refused}
use Rattle.tables.proofs.events.retesting.first_end.Goals as goal

pub returns-then-is_end : goal.returns-then-is_end
unfolding ends_at
returns-then-is_end c =
    let at-args = c.args in
    let d : Domain = domain_in at-args.rows.now in
    ap (check_answer d) (ap refused c.refusal_at.ensures) ∙ phy-stop 8 (ends_at at-args.s d) d at-args.i.0 c.phy_count-n.result c.loop-p.p c.loop-p.invariant (ap (is_end at-args.s) (sym (c.phy_in_row-f.ensures ∙ phy-held _ _ _ (omega (arith, c.phy_count-n.ensures.0)))) ∙ sym c.is_end.ensures ∙ c.if-is_end.true) (omega arith)

pub loop-p-preserved : goal.loop-p-preserved
unfolding ends_at
loop-p-preserved c =
    let at-args = c.args in
    let d : Domain = domain_in at-args.rows.now in
    phy-go 8 (ends_at at-args.s d) d at-args.i.0 c.phy_count-n.result c.loop-p.p c.loop-p.invariant (ap (is_end at-args.s) (sym (c.phy_in_row-f.ensures ∙ phy-held _ _ _ (omega (arith, c.phy_count-n.ensures.0)))) ∙ sym c.is_end.ensures ∙ c.if-is_end.false) (omega arith)

pub returns : goal.returns
returns c =
    let d : Domain = domain_in c.args.rows.now in
    phy-end 8 (ends_at c.args.s d) d c.args.i.0 c.phy_count-n.result c.loop-p.p c.loop-p.invariant (omega arith)
