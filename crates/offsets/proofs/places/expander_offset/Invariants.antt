use Prim.Native.Nat.{◌+◌, ◌-◌, ◌*◌, ◌≤◌}
use mathlib.Core.Path.{◌≡◌}
use Rattle.offsets.specs.Offsets.{expanders_after, expander_offset, longest_unit}
use Rattle.offsets.proofs.places.expander_offset.Given as goal

abbrev pub invariant-loop-k : goal.invariant-loop-k
invariant-loop-k l = (expanders_after l.file (l.fn.i.0 - l.k) l.at ≡ expander_offset l.file l.fn.i.0) × (l.at ≤ 2 + longest_unit 255 * l.k)
