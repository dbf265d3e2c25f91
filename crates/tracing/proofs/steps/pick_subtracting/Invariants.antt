use Prim.Native.Nat.{◌-◌}
use mathlib.Core.Path.{◌≡◌}
use Rattle.tables.specs.WiringDefinitions.{numbers}
use Rattle.tables.specs.WiringDefinitions.{domain_in}
use Rattle.tracing.specs.Steps.{pick, subtracting}
use Rattle.tracing.specs.Answers.{subtracting_pick}
use Rattle.tracing.proofs.steps.pick_subtracting.Given as goal

abbrev pub invariant-loop-p : goal.invariant-loop-p
invariant-loop-p l = pick (subtracting (domain_in l.rows) l.i.0) (numbers l.p (l.n - l.p)) ≡ subtracting_pick (domain_in l.rows) l.i.0
