-- expander_offset goes from expander to expander; its loop's invariant: the place after the expanders to come is that of the one looked for.
use native.Mathlib.Omega.{arith}
use Prim.Native.Nat.{ℕ, ◌+◌, ◌-◌}
use mathlib.Core.Path.{◌∙◌, ap, ap₂}
use Rattle.offsets.specs.Offsets.{phys_after, expanders_after}
use Rattle.offsets.proofs.Offsets.{places-go, places-end}
use Rattle.offsets.proofs.places.expander_offset.Goals as goal

pub loop-k-preserved : goal.loop-k-preserved
loop-k-preserved c =
    let at-args = c.args in
    let f = at-args.file.now in let e = c.phys_after-at.ensures.0 ∙ ap₂ (phys_after f) c.byte_at-n.ensures.0 c.phys_from.ensures.0 in (ap (λ (m : ℕ). expanders_after f (at-args.i.0 - (c.loop-k.k + 1)) m) e ∙ places-go f at-args.i.0 c.loop-k.k c.loop-k.at _ c.loop-k.invariant.0 (omega arith), omega (arith, c.phys_after-at.ensures.1, c.phys_from.ensures.1, c.byte_at-n.ensures.1))

pub returns : goal.returns
returns c = (places-end c.args.file.now c.args.i.0 c.loop-k.k c.loop-k.at _ c.loop-k.invariant.0 (omega arith), omega arith)
