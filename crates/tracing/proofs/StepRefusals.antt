-- When `explain_step` answers, and with which numbers it refuses.
use Prim.Native.Nat.{ℕ}
use mathlib.Core.Path.{◌≡◌, refl, sym, subst, ap, ◌∙◌}
use mathlib.Core.Bool.{not, ◌||◌}
use mathlib.Core.Logic.{inl, inr, ⊎_elim}
use mathlib.Core.List.{List}
use native.Mathlib.Omega.{arith}
use lib.ListN.{length}
use lib.Dec.{T, eqb, leb, eqb→eq, ltb→lt, lt→ltb, leb→le, le→leb, not_T, T_not}
use Rattle.tables.specs.WiringDefinitions.{bytes_for, Result, refused, good, then, refusal, Setting, Domain, phy_at, attached, RefusesExactly}
use Rattle.tables.specs.filling.Tables.{needed}
use Rattle.tables.specs.filling.Entries.{Entries, Room, room_of, counted}
use Rattle.tables.specs.JudgingCall.{judged}
use Rattle.tables.proofs.WiringLemmas.{tests, or_cases, or_left, or_right, eq→eqb, unless-good, good-unless, then-good, good-then}
use Rattle.tables.proofs.TableRefusals.{Numbered, numbered-unless, numbered-then, exactly, judged-numbered, judged_causes, causes_judged}
use Rattle.tracing.specs.declared.Reason.{Reason}
use Rattle.tracing.specs.declared.Told.{Told}
use Rattle.tracing.specs.Trace.{Request}
use Rattle.tracing.specs.Reasons.{step_allowed, step_requested, StepTold, step_told, step_asked, step_call, step_answer_of}
use Rattle.tracing.specs.TraceCauses.{trace_number}
use Rattle.tracing.specs.StepCauses.{AsksStep, NoStepCause, reason_told}

module _ (r : Room) (q : Request) (d : Domain) where
  asked : (x : Domain) → step_requested q r d ≡ good x → AsksStep q r d
  unfolding step_requested step_allowed
  asked x e =
      let i = q.start in
      let p = q.arrival in
      let a = unless-good (step_allowed d i p) (refusal 15 0 0) _ x e in
      let b = unless-good (leb (needed d) r.words) (refusal 16 0 0) _ x a.1 in
      let k = unless-good (leb (bytes_for (needed d)) r.bits) (refusal 18 0 0) _ x b.1 in
      let c = unless-good (not (eqb q.address 0)) (refusal 17 0 0) (good d) x k.1 in
      let t = a.0 in
      record {
        expander = ltb→lt i (length d) (search tests);
        arrives_by = ⊎_elim (λ v. inl (eqb→eq p 255 v)) inr (or_cases (eqb p 255) (attached (phy_at d i p)) (search tests));
        enough = record { words = leb→le (needed d) r.words b.0; bits = leb→le (bytes_for (needed d)) r.bits k.0 };
        nonzero = λ f. T_not (eqb q.address 0) c.0 (eq→eqb q.address 0 f);
      }

  passes : AsksStep q r d → step_requested q r d ≡ good d
  unfolding step_requested step_allowed
  passes a =
      let i = q.start in
      let p = q.arrival in
      let s = lt→ltb i (length d) a.expander in
      let b : T (eqb p 255 || attached (phy_at d i p)) =
      ⊎_elim (λ e. or_left (eqb p 255) (attached (phy_at d i p)) (eq→eqb p 255 e)) (or_right (eqb p 255) (attached (phy_at d i p))) a.arrives_by in
      good-unless (step_allowed d i p) (refusal 15 0 0) _ (search tests)
      ∙ good-unless (leb (needed d) r.words) (refusal 16 0 0) _ (le→leb (needed d) r.words a.enough.words)
      ∙ good-unless (leb (bytes_for (needed d)) r.bits) (refusal 18 0 0) _ (le→leb (bytes_for (needed d)) r.bits a.enough.bits)
      ∙ good-unless (not (eqb q.address 0)) (refusal 17 0 0) (good d) (not_T (eqb q.address 0) (λ t. a.nonzero (eqb→eq q.address 0 t)))

  requested-numbered : Numbered trace_number (step_requested q r d)
  unfolding step_requested
  requested-numbered =
      numbered-unless trace_number (step_allowed d q.start q.arrival) (refusal 15 0 0) _ (inr (omega arith, omega arith))
      (numbered-unless trace_number (leb (needed d) r.words) (refusal 16 0 0) _ (inr (omega arith, omega arith))
      (numbered-unless trace_number (leb (bytes_for (needed d)) r.bits) (refusal 18 0 0) _ (inr (omega arith, omega arith))
      (numbered-unless trace_number (not (eqb q.address 0)) (refusal 17 0 0) (good d) (inr (omega arith, omega arith)) tt)))

-- the rule of a step that is told
rule_of : StepTold → Result Reason
rule_of t = good t.reason

told-rule : (x : Result StepTold) → reason_told (step_answer_of x) ≡ then x rule_of
unfolding rule_of
told-rule (refused r) = refl
told-rule (good t) = refl

-- the call answers exactly when none of its causes holds, and refuses with no other number
pub step-exactly : (setting : Setting) (file : List ℕ) (t : Entries) (q : Request) (answer : Result Told) → answer ≡ step_answer_of (step_call setting file t q)
    → RefusesExactly (reason_told answer) (NoStepCause setting file q (room_of t)) trace_number
unfolding step_call step_asked rule_of
step-exactly setting file t q answer e =
    exactly trace_number (reason_told answer) (then (step_call setting file t q) rule_of) (NoStepCause setting file q (room_of t)) (ap reason_told e ∙ told-rule (step_call setting file t q)) numbered from to
  where
    numbered : Numbered trace_number (then (step_call setting file t q) rule_of)
    numbered =
        numbered-then trace_number (step_call setting file t q) rule_of
        (numbered-then trace_number (judged setting file) _ (judged-numbered trace_number (λ n h. inl h) setting file)
        (λ d. numbered-then trace_number (step_requested q (room_of t) d) _ (requested-numbered (room_of t) q d) (λ _. tt)))
        (λ s. tt)

    from : (n : Reason) → then (step_call setting file t q) rule_of ≡ good n → NoStepCause setting file q (room_of t)
    from n f =
        let a = then-good (step_call setting file t q) rule_of n f in
        let b = then-good (judged setting file) _ a.0 a.1 in
        let d = then-good (step_requested q (room_of t) b.0) _ a.0 b.2 in
        let c = judged_causes setting file b.0 b.1 in
        record { judging = c.0; asks = subst (AsksStep q (room_of t)) (sym c.1) (asked (room_of t) q b.0 d.0 d.1) }

    to : NoStepCause setting file q (room_of t) → (n : Reason) × (then (step_call setting file t q) rule_of ≡ good n)
    to c =
        let d = c.judging.domain in
        let s : StepTold = step_told d (counted t) q in
        let f = good-then (judged setting file) _ d s (causes_judged setting file c.judging) (good-then (step_requested q (room_of t) d) _ d s (passes (room_of t) q d c.asks) refl) in
        (s.reason, good-then (step_call setting file t q) rule_of s s.reason f refl)
