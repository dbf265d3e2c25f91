-- check_request is the definition's chain of tests in its order: 15, 16 of words and of bytes, 18, 17.
use mathlib.Core.Path.{refl, sym, ◌∙◌, ap}
use native.Mathlib.Omega.{arith}
use lib.ListN.{length}
use borrow.Author.Tests.{eq-eqb, ne_eqb, le-leb, lt-leb, not-true, not-false}
use Rattle.tables.specs.WiringDefinitions.{bytes_for, Refusal, refused, Domain, domain_in, check_answer}
use Rattle.tables.specs.filling.Tables.{needed}
use Rattle.tracing.specs.Trace.{request}
use Rattle.tracing.proofs.RequestCauses.{requested-by}
use Rattle.tracing.proofs.requests.check_request.Goals as goal

pub returns-then-not-is_allowed : goal.returns-then-not-is_allowed
returns-then-not-is_allowed c =
    let a = c.args in
    let d : Domain = domain_in a.rows.now in
    ap (λ (r : Refusal). check_answer d (refused r)) c.refused.ensures
    ∙ sym (requested-by (record { words = a.words; bits = a.bits }) a.bytes (request a.start.0 a.arrival.0 a.s) d
    (sym c.is_allowed.ensures ∙ not-true _ c.if-not-is_allowed.true-raw) refl refl refl refl)

pub returns-then-words-needed : goal.returns-then-words-needed
returns-then-words-needed c =
    let a = c.args in
    let d : Domain = domain_in a.rows.now in
    ap (λ (r : Refusal). check_answer d (refused r)) c.refused-then-words-needed.ensures
    ∙ sym (requested-by (record { words = a.words; bits = a.bits }) a.bytes (request a.start.0 a.arrival.0 a.s) d
    (sym c.is_allowed.ensures ∙ not-false _ c.if-not-is_allowed.false-raw) (lt-leb (needed d) a.words (omega arith)) refl refl refl)

pub returns-then-bytes-expander_count : goal.returns-then-bytes-expander_count
returns-then-bytes-expander_count c =
    let a = c.args in
    let d : Domain = domain_in a.rows.now in
    ap (λ (r : Refusal). check_answer d (refused r)) c.refused-then-bytes-expander_count.ensures
    ∙ sym (requested-by (record { words = a.words; bits = a.bits }) a.bytes (request a.start.0 a.arrival.0 a.s) d
    (sym c.is_allowed.ensures ∙ not-false _ c.if-not-is_allowed.false-raw) (le-leb (needed d) a.words (omega arith)) (lt-leb (length d) a.bytes (omega arith)) refl refl)

pub returns-then-bits-bytes_of_bits : goal.returns-then-bits-bytes_of_bits
returns-then-bits-bytes_of_bits c =
    let a = c.args in
    let d : Domain = domain_in a.rows.now in
    ap (λ (r : Refusal). check_answer d (refused r)) c.refused-then-bits-bytes_of_bits.ensures
    ∙ sym (requested-by (record { words = a.words; bits = a.bits }) a.bytes (request a.start.0 a.arrival.0 a.s) d
    (sym c.is_allowed.ensures ∙ not-false _ c.if-not-is_allowed.false-raw) (le-leb (needed d) a.words (omega arith)) (le-leb (length d) a.bytes (omega arith))
    (lt-leb (bytes_for (needed d)) a.bits (omega (arith, c.needed_words-needed.ensures.0, c.bytes_for-bytes_of_bits.ensures))) refl)

pub returns-then-s-eq0 : goal.returns-then-s-eq0
returns-then-s-eq0 c =
    let a = c.args in
    let d : Domain = domain_in a.rows.now in
    ap (λ (r : Refusal). check_answer d (refused r)) c.refused-then-s-eq0.ensures
    ∙ sym (requested-by (record { words = a.words; bits = a.bits }) a.bytes (request a.start.0 a.arrival.0 a.s) d
    (sym c.is_allowed.ensures ∙ not-false _ c.if-not-is_allowed.false-raw) (le-leb (needed d) a.words (omega arith)) (le-leb (length d) a.bytes (omega arith))
    (le-leb (bytes_for (needed d)) a.bits (omega (arith, c.needed_words-needed.ensures.0, c.bytes_for-bytes_of_bits.ensures))) (eq-eqb a.s 0 (omega arith)))

pub returns : goal.returns
returns c =
    let a = c.args in
    let d : Domain = domain_in a.rows.now in
    sym (requested-by (record { words = a.words; bits = a.bits }) a.bytes (request a.start.0 a.arrival.0 a.s) d
    (sym c.is_allowed.ensures ∙ not-false _ c.if-not-is_allowed.false-raw) (le-leb (needed d) a.words (omega arith)) (le-leb (length d) a.bytes (omega arith))
    (le-leb (bytes_for (needed d)) a.bits (omega (arith, c.needed_words-needed.ensures.0, c.bytes_for-bytes_of_bits.ensures))) (ne_eqb a.s 0 (λ e. omega arith)))
