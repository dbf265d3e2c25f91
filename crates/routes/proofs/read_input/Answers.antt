-- Meets: what was read lies within the buffer. The loop keeps that n does; a read that is not the last moves n.
use Prim.Native.Nat.{ℕ, ◌-◌}
use mathlib.Core.Path.{◌∙◌}
use borrow.Rule.Slice.PartMut.{same_len_mid, mid_len}
use native.Mathlib.Omega.{arith}
use lib.ListN.{length}
use Rattle.std.proofs.lemmas.Result.{IfOk-at_ok}
use Rattle.io.specs.Counts.{IsPrefixLen}
use Rattle.io.proofs.Counting.{prefix_len_of_le}
use Rattle.routes.proofs.read_input.Goals as goal

pub shape_of-buf-then-more-eq0 : goal.shape_of-buf-then-more-eq0
shape_of-buf-then-more-eq0 c =
    let s = same_len_mid c.loop-n.n (length c.loop-n.buf - c.loop-n.n) c.loop-n.buf c.read_some.new.buf c.read_some.auto.buf in
    s ∙ c.loop-n.invariant.1

pub returns-then-more-eq0 : goal.returns-then-more-eq0
returns-then-more-eq0 c =
    let s = same_len_mid c.loop-n.n (length c.loop-n.buf - c.loop-n.n) c.loop-n.buf c.read_some.new.buf c.read_some.auto.buf in
    prefix_len_of_le _ _ (omega arith)

pub overflow_add-n : goal.overflow_add-n
overflow_add-n c =
    let m = c.read_some.auto.buf ∙ mid_len c.loop-n.n (length c.loop-n.buf) c.loop-n.buf (omega arith) in
    let p = IfOk-at_ok (λ (n : ℕ). IsPrefixLen n c.read_some.new.buf) c.in_ok-more.was c.read_some.ensures in
    omega (arith, p.0)

pub loop-n-smaller : goal.loop-n-smaller
loop-n-smaller c =
    let m = c.read_some.auto.buf ∙ mid_len c.loop-n.n (length c.loop-n.buf) c.loop-n.buf (omega arith) in
    let s = same_len_mid c.loop-n.n (length c.loop-n.buf - c.loop-n.n) c.loop-n.buf c.read_some.new.buf c.read_some.auto.buf in
    let p = IfOk-at_ok (λ (n : ℕ). IsPrefixLen n c.read_some.new.buf) c.in_ok-more.was c.read_some.ensures in
    omega (arith, p.0)

pub loop-n-preserved : goal.loop-n-preserved
loop-n-preserved c =
    let m = c.read_some.auto.buf ∙ mid_len c.loop-n.n (length c.loop-n.buf) c.loop-n.buf (omega arith) in
    let s = same_len_mid c.loop-n.n (length c.loop-n.buf - c.loop-n.n) c.loop-n.buf c.read_some.new.buf c.read_some.auto.buf in
    let p = IfOk-at_ok (λ (n : ℕ). IsPrefixLen n c.read_some.new.buf) c.in_ok-more.was c.read_some.ensures in
    (omega (arith, p.0), s ∙ c.loop-n.invariant.1)

pub returns : goal.returns
returns c = prefix_len_of_le _ _ (omega arith)
