-- is_borne meets its contract. The loop's invariant: no phy from q on and below p bears the address.
use mathlib.Core.Path.{sym, ◌∙◌}
use Rattle.files.proofs.RowsAsDomain.{phy-held}
use Rattle.files.specs.Domain.{Domain, expander_at}
use Rattle.files.specs.Rows.{domain_in}
use Rattle.tables.proofs.events.RetestLoops.{lower-stop, lower-go, lower-end}
use native.Mathlib.Omega.{arith}
use Rattle.tables.proofs.events.retesting.is_borne.Goals as goal

pub returns-then-phy_bears : goal.returns-then-phy_bears
returns-then-phy_bears c =
    let a = c.args in
    let d : Domain = domain_in a.rows.now in
    let h = c.requires in
    lower-stop (expander_at d a.i.0).phys a.s c.loop-q.q c.loop-q.invariant (omega arith) (c.phy_in_row.ensures ∙ phy-held _ _ _ (omega arith)) (sym c.phy_bears.ensures ∙ c.if-phy_bears.true)

pub loop-q-preserved : goal.loop-q-preserved
loop-q-preserved c =
    let a = c.args in
    let d : Domain = domain_in a.rows.now in
    let h = c.requires in
    lower-go (expander_at d a.i.0).phys a.s c.loop-q.q c.loop-q.invariant (omega arith) (c.phy_in_row.ensures ∙ phy-held _ _ _ (omega arith)) (sym c.phy_bears.ensures ∙ c.if-phy_bears.false)

pub returns : goal.returns
returns c =
    let a = c.args in
    let d : Domain = domain_in a.rows.now in
    lower-end (expander_at d a.i.0).phys a.s c.loop-q.q c.loop-q.invariant (omega arith)
