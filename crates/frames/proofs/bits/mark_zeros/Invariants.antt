use Prim.Native.Nat.{◌*◌, ◌≤◌, ◌-◌}
use mathlib.Core.Path.{◌≡◌}
use lib.ListN.{length, drop}
use lib.Seq.{sets}
use Rattle.frames.specs.Bits.{packed_in, bytes_for, zero_bits, marked}
use Rattle.frames.proofs.bits.mark_zeros.Given as goal

abbrev pub invariant-loop-i : goal.invariant-loop-i
invariant-loop-i l =
    (l.i ≤ l.n) × ((l.n ≡ bytes_for (length l.words)) × ((length l.bits ≡ length l.initial.bits)
    × (sets l.bits l.i (packed_in (l.n - l.i) (drop (8 * l.i) (zero_bits l.words))) ≡ marked l.words l.initial.bits)))
