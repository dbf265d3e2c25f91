-- lists_from meets its contract; its loop's invariant: s is among the words still to come exactly when it is among them all.
use Prim.Native.Nat.{◌+◌, ◌-◌}
use mathlib.Core.Path.{◌≡◌, sym, ◌∙◌}
use native.Mathlib.Omega.{arith}
use borrow.Author.Tests.{eqb-true, eqb-false}
use Rattle.tables.specs.WiringDefinitions.{bits_of}
use Rattle.tables.specs.filling.Entries.{entries, counted}
use Rattle.tables.proofs.filling.CountedWords.{counted-length}
use Rattle.tracing.proofs.StretchOffsets.{lists_out, lists-stop, lists-go, lists-end}
use Rattle.tracing.proofs.stretches.lists_from.Goals as goal

pub returns-then-words-k : goal.returns-then-words-k
returns-then-words-k c =
    let a = c.args in
    lists_out a.s (a.n - c.loop-j.j) (a.at + c.loop-j.j) (counted (entries a.words.now a.bits.now)) c.loop-j.invariant.1 (omega (arith, counted-length (bits_of a.bits.now) a.words.now))

pub returns-then-is_entry : goal.returns-then-is_entry
returns-then-is_entry c =
    let a = c.args in
    lists-stop a.s (a.n - c.loop-j.j) (a.at + c.loop-j.j) (counted (entries a.words.now a.bits.now)) c.loop-j.invariant.1 (eqb-true _ _ (sym c.is_entry.ensures ∙ c.if-is_entry.true)) (omega arith)
    (omega (arith, counted-length (bits_of a.bits.now) a.words.now))

pub loop-j-preserved : goal.loop-j-preserved
loop-j-preserved c =
    let a = c.args in
    let e : a.n - c.loop-j.j - 1 ≡ a.n - (c.loop-j.j + 1) = omega arith in
    let f : a.at + c.loop-j.j + 1 ≡ a.at + (c.loop-j.j + 1) = omega arith in (
      λ h. omega arith,
      rw (e, f) at (lists-go a.s (a.n - c.loop-j.j) (a.at + c.loop-j.j) (counted (entries a.words.now a.bits.now)) c.loop-j.invariant.1 (eqb-false _ _ (sym c.is_entry.ensures ∙ c.if-is_entry.false)) (omega arith)
          (omega (arith, counted-length (bits_of a.bits.now) a.words.now))),
    )

pub returns : goal.returns
returns c =
    let a = c.args in
    lists-end a.s (a.n - c.loop-j.j) (a.at + c.loop-j.j) (counted (entries a.words.now a.bits.now)) c.loop-j.invariant.1 (omega arith)
