-- trace_lent meets its contract: with room lent, of the chain of tests 15 and 17 are left.
use mathlib.Core.Path.{refl, sym, ◌∙◌, subst}
use lib.ListN.{length}
use borrow.Author.Tests.{eq-eqb, ne_eqb, le-leb, not-true, not-false}
use Rattle.tables.specs.WiringDefinitions.{bytes_for, Refusal, Domain, domain_in}
use Rattle.tables.specs.filling.Tables.{needed}
use Rattle.tables.specs.filling.Entries.{entries, room_of}
use Rattle.tracing.specs.Trace.{request, traced_request, TraceDone}
use Rattle.tracing.proofs.RequestCauses.{requested-by, answer_no, answer_yes}
use Rattle.frames.specs.Refusals.{refused}
use Rattle.tracing.proofs.request_lists.trace_lent.Goals as goal

pub returns-then-not-is_allowed : goal.returns-then-not-is_allowed
returns-then-not-is_allowed c =
    let a = c.args in
    let d : Domain = domain_in a.d.now.rows.now in
    let t = entries a.words.now a.bits.now in
    let q = request a.start.0 a.arrival.0 a.s in
    subst (λ (x : Refusal). TraceDone (traced_request d t (length a.passed.now) q) (refused x) a.passed.now a.passed.now) (sym c.refused.ensures)
    (answer_no d t q a.passed.now (sym (requested-by (room_of t) (length a.passed.now) q d (sym c.is_allowed.ensures ∙ not-true _ c.if-not-is_allowed.true-raw) refl refl refl refl)))

pub returns-then-s-eq0 : goal.returns-then-s-eq0
returns-then-s-eq0 c =
    let at_pre = c.requires in
    let a = c.args in
    let d : Domain = domain_in a.d.now.rows.now in
    let t = entries a.words.now a.bits.now in
    let q = request a.start.0 a.arrival.0 a.s in
    subst (λ (x : Refusal). TraceDone (traced_request d t (length a.passed.now) q) (refused x) a.passed.now a.passed.now) (sym c.refused-then-s-eq0.ensures)
    (answer_no d t q a.passed.now (sym (requested-by (room_of t) (length a.passed.now) q d (sym c.is_allowed.ensures ∙ not-false _ c.if-not-is_allowed.false-raw) (le-leb (needed d) (length a.words.now) at_pre.0.words) (le-leb (length d) (length a.passed.now) at_pre.1) (le-leb (bytes_for (needed d)) (length a.bits.now) at_pre.0.bits) (eq-eqb a.s 0 c.if-s-eq0.true))))

pub returns : goal.returns
returns c =
    let at_pre = c.requires in
    let a = c.args in
    let d : Domain = domain_in a.d.now.rows.now in
    let t = entries a.words.now a.bits.now in
    let q = request a.start.0 a.arrival.0 a.s in
    answer_yes d t q a.passed.now (sym (requested-by (room_of t) (length a.passed.now) q d (sym c.is_allowed.ensures ∙ not-false _ c.if-not-is_allowed.false-raw) (le-leb (needed d) (length a.words.now) at_pre.0.words) (le-leb (length d) (length a.passed.now) at_pre.1) (le-leb (bytes_for (needed d)) (length a.bits.now) at_pre.0.bits) (ne_eqb a.s 0 c.if-s-eq0.false))) c.walk.ensures
