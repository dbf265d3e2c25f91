use Prim.Native.Nat.{◌+◌, ◌-◌, ◌*◌, ◌≤◌}
use mathlib.Core.Path.{◌≡◌}
use Rattle.offsets.specs.Offsets.{phys_after}
use Rattle.frames.specs.Sizes.{long_size}
use Rattle.frames.specs.declared.Response.TheVariants.{Discover}
use Rattle.offsets.proofs.places.phys_after.Given as goal

abbrev pub invariant-loop-p : goal.invariant-loop-p
invariant-loop-p l = (phys_after l.file (l.fn.n - l.p) l.next ≡ phys_after l.file l.fn.n l.fn.at) × (l.next ≤ l.fn.at + long_size Discover * l.p)
