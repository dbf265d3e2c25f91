-- count_both tests 21, then 3.
use native.Mathlib.Omega.{arith}
use Prim.Native.Nat.{◌+◌}
use mathlib.Core.Path.{refl, ap}
use borrow.Author.Tests.{not-true, not-false, le-leb, lt-leb}
use Rattle.frames.specs.Refusals.{refused}
use Rattle.benches.proofs.sides.count_both.Goals as goal

pub returns-then-not-free : goal.returns-then-not-free
returns-then-not-free c = let a = c.args in rw (not-true a.free c.if-not-free.true-raw) (ap refused c.refused.ensures)

pub returns-then-n-m : goal.returns-then-n-m
returns-then-n-m c = let a = c.args in rw (not-false a.free c.if-not-free.false-raw, lt-leb (a.n + a.m) a.most c.if-n-m.true) (ap refused c.refused-then-n-m.ensures)

pub returns : goal.returns
returns c = let a = c.args in rw (not-false a.free c.if-not-free.false-raw, le-leb (a.n + a.m) a.most (omega (arith, c.if-n-m.false))) refl
