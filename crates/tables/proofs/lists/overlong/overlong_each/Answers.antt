-- overlong_each meets its contract. The loop's invariant: no phy of the expanders below i has too long a list.
use mathlib.Core.Path.{◌∙◌, ap}
use Rattle.frames.proofs.RefusalPassedOn.{passed-on}
use Rattle.wiring.specs.phys.Checks.{check_answer}
use Rattle.files.specs.Rows.{domain_in}
use Rattle.wiring.proofs.phys.PlaceSearches.{from_next, from_end}
use Rattle.tables.specs.lists.PreparedLists.{own_overlong}
use native.Mathlib.Omega.{arith}
use Rattle.tables.proofs.lists.overlong.overlong_each.Goals as goal

pub returns-in_err-overlong_phy : goal.returns-in_err-overlong_phy
returns-in_err-overlong_phy c =
    let at-args = c.args in
    ap (check_answer _) (passed-on c.from_residual.result _ c.from_residual.ensures) ∙ from_next 14 (own_overlong (domain_in at-args.d.now.levels.attached.rows.now)) (domain_in at-args.d.now.levels.attached.rows.now) c.loop-i.i c.loop-i.invariant.1 c.overlong_phy.ensures c.in_err-overlong_phy.was (omega arith)

pub loop-i-preserved : goal.loop-i-preserved
loop-i-preserved c =
    let at-args = c.args in
    (c.overlong_phy.auto.order ∙ c.loop-i.invariant.0, from_next 14 (own_overlong (domain_in at-args.d.now.levels.attached.rows.now)) (domain_in at-args.d.now.levels.attached.rows.now) c.loop-i.i c.loop-i.invariant.1 c.overlong_phy.ensures c.in_ok-overlong_phy.was (omega arith))

pub returns : goal.returns
returns c =
    let at-args = c.args in
    from_end 14 (own_overlong (domain_in at-args.d.now.levels.attached.rows.now)) (domain_in at-args.d.now.levels.attached.rows.now) c.loop-i.i c.loop-i.invariant.1 (omega arith)
