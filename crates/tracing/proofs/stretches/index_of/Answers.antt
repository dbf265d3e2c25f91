-- index_of meets its contract; its loop's invariant: k and the index among the words still to come are the index among them all.
use Prim.Native.Nat.{◌+◌, ◌-◌}
use mathlib.Core.Path.{◌≡◌, sym, ◌∙◌}
use native.Mathlib.Omega.{arith}
use borrow.Author.Tests.{eqb-true, eqb-false}
use Rattle.tables.specs.WiringDefinitions.{bits_of}
use Rattle.tables.specs.filling.Entries.{entries, counted}
use Rattle.tables.proofs.filling.CountedWords.{counted-length}
use Rattle.tracing.proofs.StepRules.{index_out, index-stop, index-go, index-end}
use Rattle.tracing.proofs.stretches.index_of.Goals as goal

pub returns-then-words-here : goal.returns-then-words-here
returns-then-words-here c =
    let a = c.args in
    index_out a.s (a.n - c.loop-k.k) c.loop-k.k (a.at + c.loop-k.k) (counted (entries a.words.now a.bits.now)) c.loop-k.invariant (omega (arith, counted-length (bits_of a.bits.now) a.words.now))

pub returns-then-is_entry : goal.returns-then-is_entry
returns-then-is_entry c =
    let a = c.args in
    index-stop a.s (a.n - c.loop-k.k) c.loop-k.k (a.at + c.loop-k.k) (counted (entries a.words.now a.bits.now)) c.loop-k.invariant (eqb-true _ _ (sym c.is_entry.ensures ∙ c.if-is_entry.true))
    (omega arith) (omega (arith, counted-length (bits_of a.bits.now) a.words.now))

pub loop-k-preserved : goal.loop-k-preserved
loop-k-preserved c =
    let a = c.args in
    let e : a.n - c.loop-k.k - 1 ≡ a.n - (c.loop-k.k + 1) = omega arith in
    let f : a.at + c.loop-k.k + 1 ≡ a.at + (c.loop-k.k + 1) = omega arith in
    rw (e, f) at (index-go a.s (a.n - c.loop-k.k) c.loop-k.k (a.at + c.loop-k.k) (counted (entries a.words.now a.bits.now)) c.loop-k.invariant (eqb-false _ _ (sym c.is_entry.ensures ∙ c.if-is_entry.false))
    (omega arith) (omega (arith, counted-length (bits_of a.bits.now) a.words.now)))

pub returns : goal.returns
returns c =
    let a = c.args in
    let e : c.loop-k.k ≡ a.n = omega arith in
    sym e ∙ index-end a.s (a.n - c.loop-k.k) c.loop-k.k (a.at + c.loop-k.k) (counted (entries a.words.now a.bits.now)) c.loop-k.invariant (omega arith)
