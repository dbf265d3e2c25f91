-- overlong_past meets its contract: where the own list has not grown tables can be filled as before, so 14 does not hold.
use mathlib.Core.Path.{sym}
use native.Mathlib.Omega.{arith}
use Rattle.files.specs.Rows.{domain_in}
use Rattle.tables.proofs.CallOutcomes.{by-fillable}
use Rattle.tables.proofs.events.retesting.overlong_past.Goals as goal

pub returns-then-own_length-n : goal.returns-then-own_length-n
returns-then-own_length-n c =
    let at-args = c.args in
    let at_pre = c.requires in
    sym (by-fillable (domain_in at-args.d.now.levels.attached.rows.now) (at_pre.fills (omega (arith, c.own_length.ensures, c.if-own_length-n.true))))
