-- edit_frame meets its contract: a pull stores the type alone, and a plug what attach_at stores after it.
use mathlib.Core.Path.{◌∙◌}
use Prim.Native.Nat.{◌+◌}
use native.Mathlib.Omega.{arith}
use lib.ListN.{length-set}
use Rattle.events.proofs.PluggedAddress.{pull_put, plug_put}
use Rattle.events.proofs.writing.edit_frame.Goals as goal

pub returns-then-a-eq0 : goal.returns-then-a-eq0
returns-then-a-eq0 c =
    let a = c.args in
    pull_put a.a a.at a.file.now _ _ c.drive_type.ensures.0 c.with_type.ensures (omega (arith, c.if-a-eq0.true))

pub shape_of-file : goal.shape_of-file
shape_of-file c =
    let a = c.args in
    c.attach_at.auto.file ∙ length-set a.file.now (a.at + 12) c.with_type.result

pub returns : goal.returns
returns c =
    let a = c.args in
    c.attach_at.ensures ∙ plug_put a.a a.at a.file.now _ _ c.drive_type.ensures.0 c.with_type.ensures (λ z. omega (arith, c.if-a-eq0.false))
