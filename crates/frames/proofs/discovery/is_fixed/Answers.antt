-- is_fixed is the definition's conjunction, byte after byte.
use borrow.Author.Tests.{eq-eqb, ne_eqb}
use Rattle.frames.specs.Discovery.{discover_fixed}
use Rattle.frames.proofs.discovery.is_fixed.Goals as goal

pub returns-then-frame-ne65 : goal.returns-then-frame-ne65
unfolding discover_fixed
returns-then-frame-ne65 c = simp (ne_eqb _ _ c.if-frame-ne65.true)

pub returns : goal.returns
unfolding discover_fixed
returns c = simp (eq-eqb _ _ c.if-frame-ne65.false)
