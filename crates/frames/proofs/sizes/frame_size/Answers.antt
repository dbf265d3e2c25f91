-- frame_size tests that four bytes are there, and leaves byte 3 to size_stated.
use Prim.Native.Nat.{ℕ}
use mathlib.Core.Path.{ap}
use mathlib.Core.List.{List}
use native.Mathlib.Omega.{arith}
use lib.ListN.{length}
use borrow.Author.Tests.{le-leb, lt-leb}
use Rattle.frames.specs.Refusals.{refused}
use Rattle.frames.specs.Sizes.{frame_size}
use Rattle.frames.proofs.sizes.frame_size.Goals as goal

pub returns-then-frame-lt4 : goal.returns-then-frame-lt4
unfolding frame_size
returns-then-frame-lt4 c =
    let s : List ℕ = c.args.frame.now in
    simp (lt-leb 4 (length s) (omega arith)) (ap refused c.refused.ensures)

pub returns : goal.returns
unfolding frame_size
returns c =
    let s : List ℕ = c.args.frame.now in
    simp (le-leb 4 (length s) (omega arith)) c.size_stated.ensures
