-- has_upward looks at phy after phy; its loop's invariant: there is one among the phys to come where there is one at all.
use native.Mathlib.Omega.{arith}
use mathlib.Core.Path.{sym, ◌∙◌, ap}
use Rattle.files.specs.Domain.{expander_at}
use Rattle.files.specs.Rows.{domain_in}
use Rattle.files.specs.declared.Phy.TheVariants.{Vacant}
use Rattle.benches.specs.JoinCall.{upward}
use Rattle.wiring.proofs.phys.PlaceSearches.{any-stop, any-go, any-end}
use Rattle.benches.proofs.free.has_upward.Goals as goal

pub returns-then-is_upward : goal.returns-then-is_upward
returns-then-is_upward c =
    let at-args = c.args in
    any-stop upward (Vacant 0) (expander_at (domain_in at-args.rows.now) at-args.i.0).phys c.loop-p.p c.loop-p.invariant (omega (arith, c.phy_count-n.ensures))
    (sym (c.is_upward.ensures ∙ ap upward c.phy_at.ensures) ∙ c.if-is_upward.true)

pub loop-p-preserved : goal.loop-p-preserved
loop-p-preserved c =
    let at-args = c.args in
    any-go upward (Vacant 0) (expander_at (domain_in at-args.rows.now) at-args.i.0).phys c.loop-p.p c.loop-p.invariant (sym (c.is_upward.ensures ∙ ap upward c.phy_at.ensures) ∙ c.if-is_upward.false)

pub returns : goal.returns
returns c = any-end upward (Vacant 0) (expander_at (domain_in c.args.rows.now) c.args.i.0).phys c.loop-p.p c.loop-p.invariant (omega (arith, c.phy_count-n.ensures))
