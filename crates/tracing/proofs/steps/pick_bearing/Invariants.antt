use Prim.Native.Nat.{◌-◌}
use mathlib.Core.Path.{◌≡◌}
use Rattle.tables.specs.WiringDefinitions.{numbers}
use Rattle.tables.specs.WiringDefinitions.{domain_in}
use Rattle.tracing.specs.Steps.{pick, bearing}
use Rattle.tracing.specs.Answers.{bearing_pick}
use Rattle.tracing.proofs.steps.pick_bearing.Given as goal

abbrev pub invariant-loop-p : goal.invariant-loop-p
invariant-loop-p l = pick (bearing (domain_in l.rows) l.i.0 l.s) (numbers l.p (l.n - l.p)) ≡ bearing_pick (domain_in l.rows) l.i.0 l.s
