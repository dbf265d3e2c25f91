-- is_entry meets its contract: word k counts as itself where its bit is clear, and as 0 where it is set.
use mathlib.Core.Path.{sym, ◌∙◌, ap}
use mathlib.Core.Bool.{not}
use native.Mathlib.Omega.{arith}
use lib.Dec.{eqb}
use Rattle.tracing.proofs.StretchOffsets.{entry-clear, entry_set, entry_other, entry_zero}
use Rattle.tracing.proofs.stretches.is_entry.Goals as goal

pub returns-then-bit_at-eq0 : goal.returns-then-bit_at-eq0
returns-then-bit_at-eq0 c =
    let at-args = c.args in
    let at_pre = c.requires in
    entry-clear at-args.words.now at-args.bits.now at-args.k at-args.s at_pre c.if-words-k.true (sym c.bit_at.ensures ∙ c.if-bit_at-eq0.true)

pub returns-then-words-k : goal.returns-then-words-k
returns-then-words-k c =
    let at-args = c.args in
    let at_pre = c.requires in
    entry_set at-args.words.now at-args.bits.now at-args.k at-args.s at_pre (λ e. c.if-bit_at-eq0.false (c.bit_at.ensures ∙ e))

pub returns-then-s-ne0 : goal.returns-then-s-ne0
returns-then-s-ne0 c = entry_other c.args.words.now c.args.bits.now c.args.k c.args.s c.requires c.if-words-k.false c.if-s-ne0.true

pub returns : goal.returns
returns c =
    let at-args = c.args in
    let at_pre = c.requires in
    ap (λ b. not (eqb b 0)) c.bit_at-2.ensures ∙ entry_zero at-args.words.now at-args.bits.now at-args.k at-args.s at_pre c.if-words-k.false (omega (arith, c.if-s-ne0.false))
