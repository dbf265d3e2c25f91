-- replug_checked meets its contract: each room is chosen for so many expanders, and at phys from 128 on the refusal is that of phy 128.
use native.Mathlib.Omega.{arith}
use Rattle.tables.proofs.events.ReplugOutcomes.{run_past}
use Rattle.tables.proofs.events.replugging.+replug_checked.Goals as goal

pub returns-then-x-gt128 : goal.returns-then-x-gt128
returns-then-x-gt128 t c =
    let at-args = c.args in
    run_past at-args.rows.now at-args.x.expander.0 at-args.x.phy.0 at-args.x.address _ _ _ _ (omega (arith, c.if-x-gt128.true)) c.replug_checked.ensures
