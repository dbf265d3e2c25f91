-- phys_after goes from frame to frame; its loop's invariant: the place after the phys to come is that after all of them.
use native.Mathlib.Omega.{arith}
use Prim.Native.Nat.{ℕ, ◌+◌, ◌-◌}
use mathlib.Core.Path.{◌∙◌, ap}
use Rattle.offsets.specs.Offsets.{phys_after}
use Rattle.offsets.proofs.Offsets.{phys-go, phys-end}
use Rattle.offsets.proofs.places.phys_after.Goals as goal

pub loop-p-preserved : goal.loop-p-preserved
loop-p-preserved c = (ap (λ (k : ℕ). phys_after c.args.file.now (c.args.n - (c.loop-p.p + 1)) (c.loop-p.next + k)) c.discover_size-next.ensures.0 ∙ phys-go c.args.file.now c.args.n c.loop-p.p c.loop-p.next _ c.loop-p.invariant.0 (omega arith), omega (arith, c.discover_size-next.ensures.1))

pub returns : goal.returns
returns c = (phys-end c.args.file.now c.args.n c.loop-p.p c.loop-p.next _ c.loop-p.invariant.0 (omega arith), omega arith)
