-- check_step is the definition's chain of tests in its order: 15, 16, 18, 17.
use mathlib.Core.Path.{refl, sym, ◌∙◌, ap}
use native.Mathlib.Omega.{arith}
use borrow.Author.Tests.{eq-eqb, ne_eqb, le-leb, lt-leb, not-true, not-false}
use Rattle.tables.specs.WiringDefinitions.{bytes_for, Refusal, refused, Domain, domain_in, check_answer}
use Rattle.tables.specs.filling.Tables.{needed}
use Rattle.tracing.specs.Trace.{request}
use Rattle.tracing.proofs.StepRules.{step_requested-by}
use Rattle.tracing.proofs.step_call.check_step.Goals as goal

pub returns-then-not-may_arrive : goal.returns-then-not-may_arrive
returns-then-not-may_arrive c =
    let a = c.args in
    let d : Domain = domain_in a.rows.now in
    ap (λ (r : Refusal). check_answer d (refused r)) c.refused.ensures
    ∙ sym (step_requested-by (record { words = a.words; bits = a.bits }) (request a.i.0 a.arrival.0 a.s) d
    (sym c.may_arrive.ensures ∙ not-true _ c.if-not-may_arrive.true-raw) refl refl refl)

pub returns-then-words-needed : goal.returns-then-words-needed
returns-then-words-needed c =
    let a = c.args in
    let d : Domain = domain_in a.rows.now in
    ap (λ (r : Refusal). check_answer d (refused r)) c.refused-then-words-needed.ensures
    ∙ sym (step_requested-by (record { words = a.words; bits = a.bits }) (request a.i.0 a.arrival.0 a.s) d
    (sym c.may_arrive.ensures ∙ not-false _ c.if-not-may_arrive.false-raw) (lt-leb (needed d) a.words (omega arith)) refl refl)

pub returns-then-bits-bytes_for : goal.returns-then-bits-bytes_for
returns-then-bits-bytes_for c =
    let a = c.args in
    let d : Domain = domain_in a.rows.now in
    ap (λ (r : Refusal). check_answer d (refused r)) c.refused-then-bits-bytes_for.ensures
    ∙ sym (step_requested-by (record { words = a.words; bits = a.bits }) (request a.i.0 a.arrival.0 a.s) d
    (sym c.may_arrive.ensures ∙ not-false _ c.if-not-may_arrive.false-raw) (le-leb (needed d) a.words (omega arith))
    (lt-leb (bytes_for (needed d)) a.bits (omega (arith, c.needed_words-needed.ensures.0, c.bytes_for.ensures))) refl)

pub returns-then-s-eq0 : goal.returns-then-s-eq0
returns-then-s-eq0 c =
    let a = c.args in
    let d : Domain = domain_in a.rows.now in
    ap (λ (r : Refusal). check_answer d (refused r)) c.refused-then-s-eq0.ensures
    ∙ sym (step_requested-by (record { words = a.words; bits = a.bits }) (request a.i.0 a.arrival.0 a.s) d
    (sym c.may_arrive.ensures ∙ not-false _ c.if-not-may_arrive.false-raw) (le-leb (needed d) a.words (omega arith))
    (le-leb (bytes_for (needed d)) a.bits (omega (arith, c.needed_words-needed.ensures.0, c.bytes_for.ensures))) (eq-eqb a.s 0 (omega arith)))

pub returns : goal.returns
returns c =
    let a = c.args in
    let d : Domain = domain_in a.rows.now in
    sym (step_requested-by (record { words = a.words; bits = a.bits }) (request a.i.0 a.arrival.0 a.s) d
    (sym c.may_arrive.ensures ∙ not-false _ c.if-not-may_arrive.false-raw) (le-leb (needed d) a.words (omega arith))
    (le-leb (bytes_for (needed d)) a.bits (omega (arith, c.needed_words-needed.ensures.0, c.bytes_for.ensures))) (ne_eqb a.s 0 (λ e. omega arith)))
