-- replug_in meets its contract: it is refused by 14, 20, 16 or 18, or goes on as replug_prepared does.
use mathlib.Core.Path.{sym, ap, ◌∙◌}
use native.Mathlib.Omega.{arith}
use Rattle.files.specs.Rows.{domain_in}
use Rattle.wiring.specs.phys.Checks.{check_answer}
use Rattle.tables.proofs.levels.LinkPhys.{attached-known}
use Rattle.tables.proofs.CallOutcomes.{fillable-by}
use Rattle.tables.proofs.events.ReplugOutcomes.{admitted_facts}
use Rattle.tables.proofs.events.replugging.replug_in.Goals as goal

pub invariant_of-attached : goal.invariant_of-attached
invariant_of-attached c = record { attached = attached-known _ _ c.requires.0.firsts }

pub replug_prepared-requires : goal.replug_prepared-requires
replug_prepared-requires c =
    let a = c.args in
    let room = c.requires.1.levels in
    let fits = admitted_facts _ a.x.expander.0 a.x.phy.0 a.x.address (domain_in a.rows.now) _ (sym c.admit.ensures ∙ ap (check_answer _) c.in_ok-admit.was) in
    record {
      fars = attached-known _ _ c.requires.0.firsts;
      owns = c.put_owns.ensures;
      downstream = c.put_downstream.ensures;
      order = record { enough = omega (arith, room.order, c.first_overlong_by.auto.order); few = omega (arith, room.no_more.1, c.first_overlong_by.auto.order) };
      fills = fillable-by _ _ (sym c.first_overlong_by.ensures ∙ ap (check_answer _) c.in_ok-first_overlong_by.was);
      takes = fits.0;
      enough = fits.1;
    }
