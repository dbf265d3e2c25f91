-- eight_lack meets its contract; its loop's invariant: s is among the words still to come exactly when it is among the eight.
use Prim.Native.Nat.{◌+◌, ◌-◌}
use mathlib.Core.Path.{◌≡◌, ap}
use mathlib.Core.Bool.{not}
use native.Mathlib.Omega.{arith}
use Rattle.tracing.proofs.StretchOffsets.{lists-stop, lists-go, lists-end}
use Rattle.tracing.proofs.stretches.eight_lack.Goals as goal

pub returns-then-words-k : goal.returns-then-words-k
returns-then-words-k c =
    let a = c.args in
    ap not (lists-stop a.s (8 - c.loop-j.j) (a.k + c.loop-j.j) a.words.now c.loop-j.invariant c.if-words-k.true (omega arith) (omega arith))

pub loop-j-preserved : goal.loop-j-preserved
loop-j-preserved c =
    let a = c.args in
    let e : 8 - c.loop-j.j - 1 ≡ 8 - (c.loop-j.j + 1) = omega arith in
    let f : a.k + c.loop-j.j + 1 ≡ a.k + (c.loop-j.j + 1) = omega arith in
    rw (e, f) at (lists-go a.s (8 - c.loop-j.j) (a.k + c.loop-j.j) a.words.now c.loop-j.invariant c.if-words-k.false (omega arith) (omega arith))

pub returns : goal.returns
returns c =
    let a = c.args in
    ap not (lists-end a.s (8 - c.loop-j.j) (a.k + c.loop-j.j) a.words.now c.loop-j.invariant (omega arith))
