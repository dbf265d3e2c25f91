-- first_phy meets its contract. The loop's invariant: the cause holds at no phy below p.
use Prim.Native.Nat.{ℕ}
use mathlib.Core.Path.{sym, ◌∙◌, ap}
use Rattle.frames.specs.Refusals.{refused, refusal}
use Rattle.wiring.specs.phys.CauseNumbers.{phy_cause}
use Rattle.wiring.specs.phys.Checks.{cause_of}
use Rattle.files.specs.Rows.{domain_in}
use Rattle.wiring.proofs.phys.PlaceSearches.{phy_skip, phy-stop, phy-end}
use native.Mathlib.Omega.{arith}
use Rattle.wiring.proofs.phys.causes.first_phy.Goals as goal

pub returns-then-cause_holds : goal.returns-then-cause_holds
returns-then-cause_holds c =
    let a = c.args in
    let d = domain_in a.d.now.rows.now in
    let t = cause_of (phy_cause a.cause) d in
    let n = c.phy_count-n.ensures.0 in
    ap refused (c.refusal_at.ensures ∙ ap (λ (k : ℕ). refusal k a.i.0 c.loop-p.p) c.number_of.ensures)
    ∙ phy-stop (phy_cause a.cause) t d a.i.0 _ c.loop-p.p (phy_skip (phy_cause a.cause) t d a.i.0 _ c.loop-p.p c.loop-p.invariant (omega arith)) (sym c.cause_holds.ensures ∙ c.if-cause_holds.true) (omega arith)

pub returns : goal.returns
returns c =
    let a = c.args in
    let d = domain_in a.d.now.rows.now in
    let t = cause_of (phy_cause a.cause) d in
    let n = c.phy_count-n.ensures.0 in
    phy-end (phy_cause a.cause) t d a.i.0 _ c.loop-p.p (phy_skip (phy_cause a.cause) t d a.i.0 _ c.loop-p.p c.loop-p.invariant (omega arith)) (omega arith)
