-- is_no_rig tests in the order of the definition.
use mathlib.Core.Path.{sym, ◌∙◌}
use Rattle.exercises.proofs.NoRig.{no_first_lem, no_second, no_other, no_word, no_word_2, no_route_indexes, no_phys}
use native.Mathlib.Omega.{arith}
use Rattle.exercises.proofs.words.is_no_rig.Goals as goal

pub returns-then-a-eq0 : goal.returns-then-a-eq0
returns-then-a-eq0 c = no_first_lem _ _ _ c.if-a-eq0.true

pub returns-then-b-eq0 : goal.returns-then-b-eq0
returns-then-b-eq0 c = no_second _ _ _ c.if-a-eq0.false c.if-b-eq0.true

pub returns-then-a-b : goal.returns-then-a-b
returns-then-a-b c = no_other _ _ _ c.if-a-eq0.false c.if-b-eq0.false c.if-a-b.true

pub returns-then-has_word : goal.returns-then-has_word
returns-then-has_word c = no_word _ _ _ c.if-a-eq0.false c.if-b-eq0.false c.if-a-b.false (sym c.has_word.ensures ∙ c.if-has_word.true)

pub returns-then-has_word-2 : goal.returns-then-has_word-2
returns-then-has_word-2 c =
    no_word_2 _ _ _ c.if-a-eq0.false c.if-b-eq0.false c.if-a-b.false (sym c.has_word.ensures ∙ c.if-has_word.false) (sym c.has_word-2.ensures ∙ c.if-has_word-2.true)

pub returns-then-words-gt65535 : goal.returns-then-words-gt65535
returns-then-words-gt65535 c =
    no_route_indexes _ _ _ c.if-a-eq0.false c.if-b-eq0.false c.if-a-b.false (sym c.has_word.ensures ∙ c.if-has_word.false) (sym c.has_word-2.ensures ∙ c.if-has_word-2.false) (omega arith)

pub returns : goal.returns
returns c =
    no_phys _ _ _ c.if-a-eq0.false c.if-b-eq0.false c.if-a-b.false (sym c.has_word.ensures ∙ c.if-has_word.false) (sym c.has_word-2.ensures ∙ c.if-has_word-2.false) _ (omega arith) c.trimmed_count.ensures.0
