-- lists meets its contract: where s is not 0, the words that are passed over do not count as s.
use mathlib.Core.Path.{◌∙◌}
use Rattle.tracing.proofs.StretchOffsets.{passed}
use Rattle.tracing.proofs.stretches.lists.Goals as goal

pub returns : goal.returns
returns c =
    let a = c.args in
    c.lists_from-2.ensures ∙ passed a.words.now a.bits.now a.s c.if-s-eq0.false c.passed_over-r.result a.at a.n c.passed_over-r.ensures.1.1 c.passed_over-r.ensures.0 c.passed_over-r.ensures.1.0
