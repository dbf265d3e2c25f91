use Prim.Native.Nat.{◌+◌, ◌≤◌}
use mathlib.Core.List.{◌++◌}
use mathlib.Core.Path.{◌≡◌}
use lib.ListN.{length, take, drop}
use Rattle.frames.specs.Bytes.{bytes_of}
use Rattle.frames.proofs.bytes.put_number.Given as goal

abbrev pub invariant-loop-k : goal.invariant-loop-k
invariant-loop-k l =
    (l.k ≤ l.width)
    × ((length l.s ≡ length l.initial.s)
    × ((take (l.i + l.k) l.s ≡ take (l.i + l.k) l.initial.s)
    × (take l.i l.initial.s ++ (bytes_of l.k l.rest ++ drop (l.i + l.k) l.s) ≡ take l.i l.initial.s ++ (bytes_of l.width l.x ++ drop (l.i + l.width) l.initial.s))))
