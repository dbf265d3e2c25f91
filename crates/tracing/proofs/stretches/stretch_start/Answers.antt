-- stretch_start meets its contract; its loop's invariant: `at` is the words before the expander and of its phys below q.
use mathlib.Core.Path.{◌≡◌, sym, ◌∙◌}
use native.Mathlib.Omega.{arith}
use Rattle.tables.specs.WiringDefinitions.{domain_in}
use Rattle.tracing.proofs.StretchOffsets.{phys-none, phys-next, offset-is}
use Rattle.tracing.proofs.stretches.stretch_start.Goals as goal

pub loop-q-init : goal.loop-q-init
loop-q-init c = let z = phys-none (domain_in c.args.rows.now) c.args.i.0 in (omega arith, omega arith)

pub loop-q-preserved : goal.loop-q-preserved
loop-q-preserved c =
    let at-args = c.args in
    let z = phys-next (domain_in at-args.rows.now) at-args.i.0 c.loop-q.q in (omega arith, omega arith)

pub returns : goal.returns
returns c =
    let a = c.args in
    let e : c.loop-q.q ≡ a.p.0 = omega arith in
    let o = offset-is (domain_in a.rows.now) a.i.0 a.p.0 c.requires in
    ((rw e at c.loop-q.invariant.1) ∙ sym o, omega arith)
