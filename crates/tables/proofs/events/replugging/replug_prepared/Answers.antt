-- replug_prepared meets its contract: what was prepared for the domain as lent serves the edited one, but for the own list of the named expander.
use mathlib.Core.Path.{sym, ap, ◌∙◌}
use native.Mathlib.Omega.{arith}
use Rattle.frames.proofs.RefusalPassedOn.{passed-on}
use Rattle.wiring.specs.FrameDefinitions.{good}
use Rattle.wiring.specs.phys.Checks.{check_answer}
use Rattle.files.specs.PhyReplaced.{with_words}
use Rattle.tables.specs.events.ReplugCall.{replug, retested}
use Rattle.tables.proofs.events.ReplugOutcomes.{rows_are, fars-then, owns-then, below_then, ready_then, size-then, enough-then, retested-fills, replug-refused, replug-done}
use Rattle.tables.proofs.events.replugging.replug_prepared.Goals as goal

pub renew_own-requires : goal.renew_own-requires
renew_own-requires c =
    let a = c.args in
    let pre = c.requires in
    owns-then a.rows.now a.x.expander.0 a.x.phy.0 a.x.address pre.takes _ (rows_are a.rows.now a.x.expander.0 a.x.phy.0 a.x.address pre.takes _ _ _ c.phy_at-f.ensures c.replug_phy.ensures c.set_phy.ensures) _ pre.owns

pub invariant_of-attached : goal.invariant_of-attached
invariant_of-attached c =
    let a = c.args in
    let pre = c.requires in
    record { attached = fars-then a.rows.now a.x.expander.0 a.x.phy.0 a.x.address pre.takes _ (rows_are a.rows.now a.x.expander.0 a.x.phy.0 a.x.address pre.takes _ _ _ c.phy_at-f.ensures c.replug_phy.ensures c.set_phy.ensures) _ pre.fars }

pub invariant_of-levels : goal.invariant_of-levels
invariant_of-levels c =
    let a = c.args in
    let pre = c.requires in
    record { held = below_then a.rows.now a.x.expander.0 a.x.phy.0 a.x.address pre.takes _ (rows_are a.rows.now a.x.expander.0 a.x.phy.0 a.x.address pre.takes _ _ _ c.phy_at-f.ensures c.replug_phy.ensures c.set_phy.ensures) _ pre.downstream }

pub retest-requires : goal.retest-requires
retest-requires c =
    let a = c.args in
    let pre = c.requires in
    ready_then a.rows.now a.x.expander.0 a.x.phy.0 a.x.address pre.takes _ (rows_are a.rows.now a.x.expander.0 a.x.phy.0 a.x.address pre.takes _ _ _ c.phy_at-f.ensures c.replug_phy.ensures c.set_phy.ensures) _ c.own_length-n.ensures _ pre.order pre.fills

pub refill_all-requires : goal.refill_all-requires
refill_all-requires c =
    let a = c.args in
    let pre = c.requires in
    let is = rows_are a.rows.now a.x.expander.0 a.x.phy.0 a.x.address pre.takes _ _ _ c.phy_at-f.ensures c.replug_phy.ensures c.set_phy.ensures in (
      omega (arith, c.retest.auto.order, size-then a.rows.now a.x.expander.0 a.x.phy.0 a.x.address pre.takes _ is, pre.order.enough),
      (retested-fills a.x.expander.0 a.x.address _ _ (sym c.retest.ensures ∙ ap (check_answer _) c.in_ok-retest.was), enough-then a.rows.now a.x.expander.0 a.x.phy.0 a.x.address pre.takes _ is _ pre.enough),
    )

pub returns-in_err-retest : goal.returns-in_err-retest
returns-in_err-retest c =
    let a = c.args in
    let is = rows_are a.rows.now a.x.expander.0 a.x.phy.0 a.x.address c.requires.takes _ _ _ c.phy_at-f.ensures c.replug_phy.ensures c.set_phy.ensures in (
      c.set_phy.ensures.words ∙ ap (with_words a.rows.now a.x.expander.0 a.x.phy.0) (c.replug_phy.ensures ∙ ap (replug a.x.address) c.phy_at-f.ensures),
      rw (passed-on c.from_residual.result _ c.from_residual.ensures) (replug-refused _ _ _ _ (ap (retested a.x.expander.0 a.x.address) (sym is) ∙ sym c.retest.ensures ∙ ap (check_answer _) c.in_err-retest.was)),
    )

pub returns : goal.returns
returns c =
    let a = c.args in
    let is = rows_are a.rows.now a.x.expander.0 a.x.phy.0 a.x.address c.requires.takes _ _ _ c.phy_at-f.ensures c.replug_phy.ensures c.set_phy.ensures in (
      c.set_phy.ensures.words ∙ ap (with_words a.rows.now a.x.expander.0 a.x.phy.0) (c.replug_phy.ensures ∙ ap (replug a.x.address) c.phy_at-f.ensures),
      replug-done _ _ _ _ _ _ (ap (retested a.x.expander.0 a.x.address) (sym is) ∙ sym c.retest.ensures ∙ ap (check_answer _) c.in_ok-retest.was) c.refill_all.ensures.0 (ap good c.refill_all.ensures.1),
    )
