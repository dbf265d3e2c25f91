use Prim.Native.Nat.{◌+◌, ◌-◌}
use mathlib.Core.Path.{◌≡◌}
use lib.Seq.{sets}
use Rattle.frames.specs.Bits.{number_bits, bits_of}
use Rattle.cards.proofs.bits.put_bits.Given as goal

abbrev pub invariant-loop-k : goal.invariant-loop-k
invariant-loop-k l = sets (bits_of l.s) (l.fn.at + l.k) (number_bits (l.width - l.k) l.x) ≡ sets (bits_of l.initial.s) l.fn.at (number_bits l.width l.x)
