-- passed_over meets its contract; its loop's invariant: the first r words are there, and s is not among them.
use mathlib.Core.Path.{refl, sym, ◌∙◌}
use native.Mathlib.Omega.{arith}
use borrow.Author.Tests.{not-true, not-false}
use Rattle.tracing.proofs.StretchOffsets.{lists-end, passed-more}
use Rattle.tracing.proofs.stretches.passed_over.Goals as goal

pub returns-then-words-at : goal.returns-then-words-at
returns-then-words-at c = let a = c.args in (omega arith, (omega arith, sym (lists-end a.s 0 a.at a.words.now refl (omega arith))))

pub loop-r-init : goal.loop-r-init
loop-r-init c = let a = c.args in (omega arith, (omega arith, sym (lists-end a.s 0 a.at a.words.now refl (omega arith))))

pub loop-r-preserved : goal.loop-r-preserved
loop-r-preserved c =
    let a = c.args in
    (omega arith, (omega arith, passed-more a.s c.loop-r.r a.at a.words.now c.loop-r.invariant.1.1 (not-true _ (sym c.eight_lack.ensures ∙ not-false _ c.if-not-eight_lack.false-raw))))
