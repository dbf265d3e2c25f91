-- eight_alike meets its contract; its loop's invariant: the bits still to come are all set, or all clear, exactly when the eight are.
use Prim.Native.Nat.{◌+◌, ◌-◌}
use mathlib.Core.Path.{◌≡◌}
use native.Mathlib.Omega.{arith}
use Rattle.frames.proofs.DisableBits.{alike-go, alike-stop, alike_end}
use Rattle.frames.proofs.bits.eight_alike.Goals as goal

pub returns-then-words-at : goal.returns-then-words-at
returns-then-words-at c =
    let a = c.args in
    alike-stop a.zero a.words.now (8 - c.loop-k.k) (a.at + c.loop-k.k) c.loop-k.invariant.1 c.if-words-at.true (omega arith) (omega arith)

pub loop-k-preserved : goal.loop-k-preserved
loop-k-preserved c =
    let a = c.args in
    let e : 8 - c.loop-k.k - 1 ≡ 8 - (c.loop-k.k + 1) = omega arith in
    let f : a.at + c.loop-k.k + 1 ≡ a.at + (c.loop-k.k + 1) = omega arith in
    (omega arith, rw (e, f) at (alike-go a.zero a.words.now (8 - c.loop-k.k) (a.at + c.loop-k.k) c.loop-k.invariant.1 c.if-words-at.false (omega arith) (omega arith)))

pub returns : goal.returns
returns c =
    let a = c.args in
    alike_end a.zero a.words.now (8 - c.loop-k.k) (a.at + c.loop-k.k) c.loop-k.invariant.1 (omega arith)
