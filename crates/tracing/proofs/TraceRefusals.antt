-- When the trace call answers, and with which numbers it refuses.
use Prim.Native.Nat.{ℕ}
use mathlib.Core.Path.{◌≡◌, refl, sym, subst}
use mathlib.Core.Bool.{not, ◌&&◌}
use mathlib.Core.Logic.{inl, inr}
use mathlib.Core.List.{List}
use native.Mathlib.Omega.{arith}
use lib.ListN.{length}
use lib.Dec.{eqb, leb}
use Rattle.tables.specs.WiringDefinitions.{Result, bytes_for, good, then, refusal, Setting, Domain, RefusesExactly}
use Rattle.tables.specs.filling.Tables.{needed}
use Rattle.tables.specs.filling.Entries.{Entries, Room, room_of, counted}
use Rattle.tables.specs.JudgingCall.{judged}
use Rattle.tables.proofs.WiringLemmas.{then-good, good-then}
use Rattle.tables.proofs.TableRefusals.{Numbered, numbered-unless, numbered-then, exactly, judged-numbered, judged_causes, causes_judged}
use Rattle.tracing.specs.declared.End.{End}
use Rattle.tracing.specs.Trace.{Traced, Request, traced, allowed, requested, traced_request, trace_call, Reported, report, trace_answer, TraceDone}
use Rattle.tracing.specs.TraceCauses.{Asks, NoTraceCause, trace_number}
use Rattle.tracing.proofs.RequestCauses.{requested_iff}

requested-numbered : (q : Request) (room : Room) (bytes : ℕ) (d : Domain) → Numbered trace_number (requested q room bytes d)
unfolding requested
requested-numbered q room bytes d =
    numbered-unless trace_number (allowed d q.start q.arrival) (refusal 15 0 0) _ (inr (omega arith, omega arith))
    (numbered-unless trace_number (leb (needed d) room.words && leb (length d) bytes) (refusal 16 0 0) _ (inr (omega arith, omega arith))
    (numbered-unless trace_number (leb (bytes_for (needed d)) room.bits) (refusal 18 0 0) _ (inr (omega arith, omega arith))
    (numbered-unless trace_number (not (eqb q.address 0)) (refusal 17 0 0) (good d) (inr (omega arith, omega arith)) tt)))

-- the trace call answers exactly when none of its causes holds, and refuses with no other number
pub trace-exactly : (setting : Setting) (file : List ℕ) (t : Entries) (lent after : List ℕ) (q : Request) (answer : Result End) → TraceDone (trace_call setting file t (length lent) q) answer lent after
    → RefusesExactly (trace_answer answer) (NoTraceCause setting file q (room_of t) (length lent)) trace_number
unfolding trace_call traced_request
trace-exactly setting file r lent after q answer o =
    exactly trace_number (trace_answer answer) (then (trace_call setting file r bytes q) report) (NoTraceCause setting file q (room_of r) bytes) o.answers numbered from to
  where
    bytes : ℕ
    bytes = length lent

    numbered : Numbered trace_number (then (trace_call setting file r bytes q) report)
    numbered =
        numbered-then trace_number (trace_call setting file r bytes q) report
        (numbered-then trace_number (judged setting file) _ (judged-numbered trace_number (λ n h. inl h) setting file)
        (λ d. numbered-then trace_number (requested q (room_of r) bytes d) _ (requested-numbered q (room_of r) bytes d) (λ _. tt)))
        (λ t. tt)

    from : (n : Reported) → then (trace_call setting file r bytes q) report ≡ good n → NoTraceCause setting file q (room_of r) bytes
    from n e =
        let a = then-good (trace_call setting file r bytes q) report n e in
        let b = then-good (judged setting file) _ a.0 a.1 in
        let d = then-good (requested q (room_of r) bytes b.0) _ a.0 b.2 in
        let c = judged_causes setting file b.0 b.1 in
        let k = (requested_iff (room_of r) bytes q b.0).0 (d.0, d.1) in
        record { judging = c.0; asks = subst (Asks q (room_of r) bytes) (sym c.1) k }

    to : NoTraceCause setting file q (room_of r) bytes → (n : Reported) × (then (trace_call setting file r bytes q) report ≡ good n)
    to c =
        let d = c.judging.domain in
        let t : Traced = traced d (counted r) q in
        let k = (requested_iff (room_of r) bytes q d).1 c.asks in
        let n : Reported = record { outcome = t.outcome; last = t.last; phy = t.phy; count = length t.passed } in
        let e = good-then (judged setting file) _ d t (causes_judged setting file c.judging) (good-then (requested q (room_of r) bytes d) _ k.0 t k.1 refl) in
        (n, good-then (trace_call setting file r bytes q) report t n e refl)
