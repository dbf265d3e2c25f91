use Prim.Native.Nat.{◌+◌, ◌-◌, ◌^◌, ◌≤◌}
use mathlib.Core.Path.{◌≡◌}
use mathlib.Core.Bool.{cond}
use lib.ListN.{drop}
use lib.Dec.{eqb}
use Rattle.frames.specs.Bits.{field, zero_bits}
use Rattle.frames.proofs.bits.eight_alike.Given as goal

abbrev pub invariant-loop-k : goal.invariant-loop-k
invariant-loop-k l = (l.k ≤ 8) × (eqb (field (8 - l.k) (drop (l.at + l.k) (zero_bits l.words))) (cond l.zero (2 ^ (8 - l.k) - 1) 0) ≡ eqb (field 8 (drop l.at (zero_bits l.words))) (cond l.zero 255 0))
