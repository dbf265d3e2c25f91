-- When making a form and the calls over a form answer, and with which numbers they refuse.
use Prim.Native.Nat.{ℕ, ◌≤◌}
use mathlib.Core.Path.{◌≡◌, refl, sym, ap, subst, ◌∙◌}
use mathlib.Core.Logic.{inl, inr}
use mathlib.Core.Bool.{◌&&◌}
use mathlib.Core.List.{List}
use lib.ListN.{length}
use lib.Dec.{leb, leb→le, le→leb}
use Rattle.frames.specs.Bits.{bytes_for}
use Rattle.frames.specs.Refusals.{Result, good, then, refusal}
use Rattle.frames.specs.RefusesExactly.{RefusesExactly}
use Rattle.files.specs.declared.Setting.{Setting}
use Rattle.files.specs.Settings.{in_range}
use Rattle.files.specs.Domain.{Domain}
use Rattle.files.proofs.ListMembers.{and_left, and_right, and_both, is_true}
use Rattle.files.proofs.SettingRanges.{range_iff}
use Rattle.files.proofs.CallResults.{weaker, good-one, unless-good, good-unless, then-good, good-then}
use Rattle.tables.specs.filling.Tables.{table_places, needed}
use Rattle.tables.specs.filling.Entries.{Entries, Room, room_of, Enough, counted}
use Rattle.tables.specs.JudgingCall.{judged, tables_for, counts_in, TablesDone}
use Rattle.tables.proofs.AcceptedDomains.{tables_iff}
use Rattle.tables.proofs.TableRefusals.{Numbered, numbered-unless, numbered-then, exactly, judged-numbered, judged_causes, causes_judged}
use Rattle.tracing.specs.Trace.{Request, Traced, traced, requested, traced_request, Reported, report, trace_answer, TraceDone}
use Rattle.tracing.specs.RequestLists.{request_count, list_for, ListTraced}
use Rattle.tracing.proofs.RequestCauses.{requested_iff}
use Rattle.tables.specs.declared.Counted.{Counted}
use Rattle.tracing.specs.declared.End.{End}
use Rattle.forms.specs.declared.FormCounts.{FormCounts}
use Rattle.forms.specs.Form.{form_of, form_in}
use Rattle.forms.specs.NormalDomain.{normal}
use Rattle.forms.specs.FormCalls.{formed, form_read, Words, form_for, form_call, form_tables, form_trace, form_list}
use Rattle.forms.specs.Calls.{form_counts, FormDone}
use Rattle.forms.specs.FormCauses.{NoMakingCause, making_number, NoOpeningCause, opening_number, NoFormTableCause, form_table_number, NoFormTraceCause, form_trace_number, NoFormListCause}
use Rattle.forms.proofs.BadPlaces.{Late}
use Rattle.forms.proofs.FormCallOutcomes.{tables-numbered, list-numbered, request-late}
use Rattle.forms.proofs.NormalDomains.{normal-alike, needed-alike}
use Rattle.forms.proofs.NormalTraces.{request-alike}
use Rattle.forms.proofs.AcceptedForms.{form-read, formed_iff}

-- making a form answers exactly when none of its causes holds, and refuses with no other number
pub making-exactly : (setting : Setting) (file before after : List ℕ) (answer : Result FormCounts) → FormDone (form_call setting file (length before)) answer before after
    → RefusesExactly answer (NoMakingCause setting file (length before)) making_number
unfolding form_call
making-exactly setting file before after answer o =
    exactly making_number answer (then (form_call setting file room) form_counts) (NoMakingCause setting file room) o.answers numbered from to
  where
    room : ℕ
    room = length before

    numbered : Numbered making_number (then (form_call setting file room) form_counts)
    numbered =
        numbered-then making_number (form_call setting file room) form_counts
        (numbered-then making_number (judged setting file) (form_for room) (judged-numbered making_number (λ n h. inl h) setting file)
        (λ d. numbered-unless making_number (leb (length (form_of d)) room) (refusal 16 0 0) (good d) (inr refl) tt))
        (λ d. tt)

    from : (n : FormCounts) → then (form_call setting file room) form_counts ≡ good n → NoMakingCause setting file room
    from n e =
        let a = then-good (form_call setting file room) form_counts n e in
        let b = then-good (judged setting file) (form_for room) a.0 a.1 in
        let c = judged_causes setting file b.0 b.1 in
        let u = unless-good (leb (length (form_of b.0)) room) (refusal 16 0 0) (good b.0) a.0 b.2 in
        record { judging = c.0; enough = subst (λ d. length (form_of d) ≤ room) (sym c.1) (leb→le (length (form_of b.0)) room u.0) }

    to : NoMakingCause setting file room → (n : FormCounts) × (then (form_call setting file room) form_counts ≡ good n)
    to c =
        let d = c.judging.domain in
        let n : FormCounts = record { expander_count = length d; word_count = length (form_of d) } in
        let u = good-unless (leb (length (form_of d)) room) (refusal 16 0 0) (good d) (le→leb (length (form_of d)) room c.enough) in
        (n, good-then (form_call setting file room) form_counts d n (good-then (judged setting file) (form_for room) d d (causes_judged setting file c.judging) u) refl)

-- reading a form: 22, then 1
module _ (setting : Setting) (ws : List ℕ) where
  opening-numbered : (P : ℕ → Type 0) → ((n : ℕ) → opening_number n → P n) → Numbered P (form_read setting ws)
  unfolding form_read
  opening-numbered P h =
      numbered-unless P (in_range setting) (refusal 22 0 0) _ (h 22 (inl refl))
      (numbered-unless P (formed setting ws) (refusal 1 0 0) (good (form_in ws)) (h 1 (inr refl)) tt)

  -- it reads as the domain of which it is the form, with what a form leaves out set to 1
  opened : (c : NoOpeningCause setting ws) → form_read setting ws ≡ good (normal c.form.domain)
  opened c =
      let f = c.form in
      subst (λ (l : List ℕ). form_read setting l ≡ good (normal f.domain)) f.words (form-read setting f.domain (record { read = f.read; fits = f.fits; judged = f.accepted }))

  module _ (h : Words ws) where
    opens : (x : Domain) → form_read setting ws ≡ good x → (c : NoOpeningCause setting ws) × (x ≡ normal c.form.domain)
    unfolding form_read
    opens x e =
        let a = unless-good (in_range setting) (refusal 22 0 0) _ x e in
        let b = unless-good (formed setting ws) (refusal 1 0 0) (good (form_in ws)) x a.1 in
        let r = (range_iff setting).0 a.0 in
        let c : NoOpeningCause setting ws = record { range = r; form = (formed_iff setting ws r h).0 (is_true (formed setting ws) b.0) } in
        (c, good-one x (normal c.form.domain) (sym e ∙ opened c))

    -- the table call over a form answers exactly when none of its causes holds, and refuses with no other number
    pub form-tables-exactly : (before after : Entries) (answer : Result Counted) → TablesDone (form_tables setting ws (room_of before)) answer before after
        → RefusesExactly answer (NoFormTableCause setting ws (room_of before)) form_table_number
    unfolding form_tables
    form-tables-exactly before after answer o =
        exactly form_table_number answer (then (form_tables setting ws room) counts_in) (NoFormTableCause setting ws room) o.answers
        (numbered-then form_table_number (form_tables setting ws room) counts_in
        (numbered-then form_table_number (form_read setting ws) (tables_for room) (opening-numbered form_table_number (λ n k. inl k)) (tables-numbered form_table_number (inr (inl refl)) (inr (inr refl)) room)) (λ d. tt)) from to
      where
        room : Room
        room = room_of before

        from : (n : Counted) → then (form_tables setting ws room) counts_in ≡ good n → NoFormTableCause setting ws room
        from n e =
            let a = then-good (form_tables setting ws room) counts_in n e in
            let b = then-good (form_read setting ws) (tables_for room) a.0 a.1 in
            let c = opens b.0 b.1 in
            let d = c.0.form.domain in
            let r = (tables_iff (good b.0) room a.0).0 b.2 in
            let z : a.0 ≡ normal d = sym (good-one b.0 a.0 r.0) ∙ c.1 in
            record { opening = c.0; enough = subst (λ k. Enough k room) (ap needed z ∙ needed-alike (normal d) d (normal-alike 1 d)) r.1 }

        to : NoFormTableCause setting ws room → (n : Counted) × (then (form_tables setting ws room) counts_in ≡ good n)
        to c =
            let d = c.opening.form.domain in
            let x = normal d in
            let n : Counted = record { table_count = length (table_places x); word_count = needed x } in
            let r = (tables_iff (good x) room x).1 (refl, subst (λ k. Enough k room) (sym (needed-alike x d (normal-alike 1 d))) c.enough) in
            (n, good-then (form_tables setting ws room) counts_in x n (good-then (form_read setting ws) (tables_for room) x x (opened c.opening) r) refl)

    -- and so does a trace over a form
    pub form-trace-exactly : (t : Entries) (q : Request) (before after : List ℕ) (answer : Result End) → TraceDone (form_trace setting ws t (length before) q) answer before after
        → RefusesExactly (trace_answer answer) (NoFormTraceCause setting ws q (room_of t) (length before)) form_trace_number
    unfolding form_trace traced_request
    form-trace-exactly t q before after answer o =
        exactly form_trace_number (trace_answer answer) (then (form_trace setting ws t bytes q) report) (NoFormTraceCause setting ws q (room_of t) bytes) o.answers
        (numbered-then form_trace_number (form_trace setting ws t bytes q) report
        (numbered-then form_trace_number (form_read setting ws) one (opening-numbered form_trace_number (λ n k. inl k))
        (λ d. weaker Late form_trace_number (λ _. Unit {0}) (λ _. Unit {0}) (one d) (request-late t bytes q d) (λ n k. inr k) (λ _ _. tt))) (λ x. tt)) from to
      where
        bytes : ℕ
        bytes = length before

        one : Domain → Result Traced
        one d = traced_request d t bytes q

        from : (n : Reported) → then (form_trace setting ws t bytes q) report ≡ good n → NoFormTraceCause setting ws q (room_of t) bytes
        from n e =
            let a = then-good (form_trace setting ws t bytes q) report n e in
            let b = then-good (form_read setting ws) one a.0 a.1 in
            let c = opens b.0 b.1 in
            let d = c.0.form.domain in
            let k : one d ≡ good a.0 = sym (ap one c.1 ∙ request-alike (normal d) d (normal-alike 1 d) t bytes q) ∙ b.2 in
            let r = then-good (requested q (room_of t) bytes d) _ a.0 k in
            record { opening = c.0; asks = (requested_iff (room_of t) bytes q d).0 (r.0, r.1) }

        to : NoFormTraceCause setting ws q (room_of t) bytes → (n : Reported) × (then (form_trace setting ws t bytes q) report ≡ good n)
        to c =
            let d = c.opening.form.domain in
            let x : Traced = traced d (counted t) q in
            let n : Reported = record { outcome = x.outcome; last = x.last; phy = x.phy; count = length x.passed } in
            let k = (requested_iff (room_of t) bytes q d).1 c.asks in
            let r : one (normal d) ≡ good x = request-alike (normal d) d (normal-alike 1 d) t bytes q ∙ good-then (requested q (room_of t) bytes d) _ k.0 x k.1 refl in
            (n, good-then (form_trace setting ws t bytes q) report x n (good-then (form_read setting ws) one (normal d) x (opened c.opening) r) refl)

    -- and so does a list of requests over a form
    pub form-list-exactly : (t : Entries) (requests before after : List ℕ) (answer : Result ℕ)
        → ListTraced (form_list setting ws (room_of t) (length before) (request_count requests)) t requests answer before after
        → RefusesExactly answer (NoFormListCause setting ws (room_of t) (length before) (request_count requests)) form_table_number
    unfolding form_list
    form-list-exactly t requests before after answer o =
        exactly form_table_number answer (then (form_list setting ws room answers count) told) (NoFormListCause setting ws room answers count) o.answers
        (numbered-then form_table_number (form_list setting ws room answers count) told
        (numbered-then form_table_number (form_read setting ws) (list_for room answers count) (opening-numbered form_table_number (λ n k. inl k)) (list-numbered form_table_number (inr (inl refl)) (inr (inr refl)) room answers count)) (λ d. tt)) from to
      where
        room : Room
        room = room_of t

        answers : ℕ
        answers = length before

        count : ℕ
        count = request_count requests

        told : Domain → Result ℕ
        told d = good count

        from : (n : ℕ) → then (form_list setting ws room answers count) told ≡ good n → NoFormListCause setting ws room answers count
        from n e =
            let a = then-good (form_list setting ws room answers count) told n e in
            let b = then-good (form_read setting ws) (list_for room answers count) a.0 a.1 in
            let x = b.0 in
            let c = opens x b.1 in
            let d = c.0.form.domain in
            let u = unless-good (leb (needed x) room.words && leb count answers) (refusal 16 0 0) _ a.0 b.2 in
            let v = unless-good (leb (bytes_for (needed x)) room.bits) (refusal 18 0 0) (good x) a.0 u.1 in
            let w : Enough (needed x) room = record {
              words = leb→le (needed x) room.words (and_left (leb (needed x) room.words) (leb count answers) u.0);
              bits = leb→le (bytes_for (needed x)) room.bits v.0;
            } in
            record {
              opening = c.0;
              enough = subst (λ k. Enough k room) (ap needed c.1 ∙ needed-alike (normal d) d (normal-alike 1 d)) w;
              enough_answers = leb→le count answers (and_right (leb (needed x) room.words) (leb count answers) u.0);
            }

        to : NoFormListCause setting ws room answers count → (n : ℕ) × (then (form_list setting ws room answers count) told ≡ good n)
        to c =
            let d = c.opening.form.domain in
            let x = normal d in
            let w : Enough (needed x) room = subst (λ k. Enough k room) (sym (needed-alike x d (normal-alike 1 d))) c.enough in
            let u = and_both (leb (needed x) room.words) (leb count answers) (le→leb (needed x) room.words w.words) (le→leb count answers c.enough_answers) in
            let r : list_for room answers count x ≡ good x =
            good-unless (leb (needed x) room.words && leb count answers) (refusal 16 0 0) _ u
            ∙ good-unless (leb (bytes_for (needed x)) room.bits) (refusal 18 0 0) (good x) (le→leb (bytes_for (needed x)) room.bits w.bits) in
            (count, good-then (form_list setting ws room answers count) told x count (good-then (form_read setting ws) (list_for room answers count) x x (opened c.opening) r) refl)
