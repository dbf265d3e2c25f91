-- is_fixed is the definition's conjunction, byte after byte: 0, 1, then byte 3 by is_length.
use borrow.Author.Tests.{eq-eqb, ne_eqb}
use Rattle.frames.specs.ConfigureRoute.{route_fixed}
use Rattle.frames.proofs.configure_route.is_fixed.Goals as goal

pub returns-then-frame-ne64 : goal.returns-then-frame-ne64
unfolding route_fixed
returns-then-frame-ne64 c = simp (ne_eqb _ _ c.if-frame-ne64.true)

pub returns-then-frame : goal.returns-then-frame
unfolding route_fixed
returns-then-frame c = simp (eq-eqb _ _ c.if-frame-ne64.false, ne_eqb _ _ c.if-frame.true)

pub returns : goal.returns
unfolding route_fixed
returns c =
    simp (eq-eqb _ _ c.if-frame-ne64.false, eq-eqb _ _ c.if-frame.false) c.is_length.ensures
