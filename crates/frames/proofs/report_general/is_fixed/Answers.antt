-- is_fixed is the definition's conjunction, byte after byte. The last two returns name the bytes, so that an edit of them makes a fact false.
use Prim.Native.Nat.{ℕ}
use mathlib.Core.List.{List}
use native.Mathlib.Omega.{arith}
use borrow.Author.Tests.{eq-eqb, ne_eqb}
use Rattle.frames.specs.Bytes.{byte}
use Rattle.frames.specs.ReportGeneral.{general_fixed}
use Rattle.frames.proofs.report_general.is_fixed.Goals as goal

pub returns-then-frame-ne65 : goal.returns-then-frame-ne65
unfolding general_fixed
returns-then-frame-ne65 c = simp (ne_eqb _ _ c.if-frame-ne65.true)

pub returns-then-frame-ne0 : goal.returns-then-frame-ne0
unfolding general_fixed
returns-then-frame-ne0 c = simp (eq-eqb _ _ c.if-frame-ne65.false, ne_eqb _ _ c.if-frame-ne0.true)

pub returns : goal.returns
unfolding general_fixed
returns c =
    let s : List ℕ = c.args.frame.now in
    simp (eq-eqb (byte s 0) 0x41 (omega arith), eq-eqb (byte s 1) 0x00 (omega arith))
