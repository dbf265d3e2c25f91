-- Which words the calls over a form take, exactly; and over the form of an accepted file they answer and leave what the calls over the file do.
use Prim.Native.Nat.{ℕ, ◌+◌, ◌*◌, ◌/◌, ◌%◌, ◌<◌}
use mathlib.Core.Path.{◌≡◌, refl, sym, ap, subst, ◌∙◌}
use mathlib.Core.Logic.{◌≢◌, ◌↔◌}
use mathlib.Core.Bool.{Bool, true, false, not, ◌&&◌}
use mathlib.Core.List.{List, [], ◌∷◌, ◌++◌}
use native.Mathlib.Omega.{arith}
use lib.ListN.{length, get_or, take, drop, length-map, get_or-append}
use lib.Seq.{take_at}
use lib.Dec.{leb}
use borrow.Author.Tests.{not-true, lt-ltb}
use Rattle.frames.specs.Refusals.{Result, refused, good, unless, then, refusal}
use Rattle.frames.specs.declared.Refusal.{Refusal}
use Rattle.frames.specs.Bits.{bytes_for}
use Rattle.files.specs.declared.Setting.{Setting}
use Rattle.files.specs.declared.Phy.{Phy}
use Rattle.files.specs.declared.Phy.TheVariants.{Vacant, Present}
use Rattle.files.specs.Lists.{Distinct}
use Rattle.files.specs.Settings.{InRange, in_range}
use Rattle.files.specs.Domain.{Expander, Domain}
use Rattle.files.specs.ReadDomain.{ReadPhy, ReadExpander, addresses, Read, Bytes, FitsDomain}
use Rattle.files.proofs.SettingRanges.{range_iff}
use Rattle.files.proofs.ReadDomain.{read-good, read_fits}
use Rattle.files.proofs.CallResults.{never, good-one, both, unless-good, then-good}
use Rattle.files.proofs.ListMembers.{by-test, is_true, in_map}
use Rattle.wiring.proofs.phys.WiredPhys.{Wired}
use Rattle.tables.specs.filling.Tables.{table_places, needed}
use Rattle.tables.specs.filling.Entries.{Entries, room_of, put_before}
use Rattle.tables.specs.JudgingCall.{judged_domain, judged, tables_for, table_call, counts_in, tables_after, TablesDone}
use Rattle.tables.proofs.AcceptedDomains.{judged-routable, accepted_iff, judged-file}
use Rattle.tables.proofs.TableRefusals.{Numbered}
use Rattle.tracing.specs.Trace.{Request, request, Traced, traced_request, judged_request, trace_call, report, trace_answer, TraceDone}
use Rattle.tracing.specs.Packing.{packed, end_packed}
use Rattle.tracing.specs.RequestLists.{one_answer, answers_of, request_count, list_for, list_after, ListTraced}
use Rattle.tracing.specs.Demand3.{Demand3}
use Rattle.tracing.proofs.RequestLists.{length-answers, each-answer}
use Rattle.tracing.proofs.Demand3.{demand3}
use Rattle.tables.specs.declared.Counted.{Counted}
use Rattle.tracing.specs.declared.End.{End}
use Rattle.forms.specs.declared.FormCounts.{FormCounts}
use Rattle.forms.specs.Form.{form_of, form_in}
use Rattle.forms.specs.NormalDomain.{normal_phy, normal_expander, normal}
use Rattle.forms.specs.FormCalls.{unread, is_good, same_words, formed, form_read, FormOf, Words, form_for, form_call, form_tables, form_trace, form_list}
use Rattle.forms.specs.Calls.{form_counts, form_after, FormDone}
use Rattle.forms.proofs.BadPlaces.{Late}
use Rattle.forms.proofs.FormDomains.{Numbers, form-back, form-fits, unread-read, read-unread}
use Rattle.forms.proofs.RightWords.{same-words, words_same}
use Rattle.forms.proofs.NormalDomains.{length-same, Alike, normal-alike, normal-accepted, tables-alike, places-alike, needed-alike}
use Rattle.forms.proofs.FormRoundTrip.{form-normal-back, form-normal}
use Rattle.forms.proofs.NormalTraces.{request-alike, answers-alike}
use Rattle.forms.proofs.FormCallOutcomes.{tables-late, list-late, request-late}

-- a domain that is read stays one with what a form leaves out set to 1
normal-phy : (φ : Phy) → ReadPhy φ → ReadPhy (normal_phy 1 φ)
normal-phy (Vacant r) g = λ z. omega arith
normal-phy (Present f) g = g

normal-expander : (most : Setting) (e : Expander) → ReadExpander most e → ReadExpander most (normal_expander 1 e)
normal-expander most e g =
    let l = length-map e.phys (normal_phy 1) in
    record {
      borne = g.borne;
      configurable = omega arith;
      some = omega (arith, g.some);
      few = omega (arith, g.few);
      phys = λ φ h. let m = in_map (normal_phy 1) e.phys φ h in subst ReadPhy (sym m.2) (normal-phy m.0 (g.phys m.0 m.1));
    }

addresses-same : (d : Domain) → addresses (normal d) ≡ addresses d
addresses-same [] = refl
addresses-same (e ∷ d) = ap (λ (l : List ℕ). e.address ∷ l) (addresses-same d)

normal-read : (most : Setting) (d : Domain) → Read most d → Read most (normal d)
normal-read most d g =
    let l = length-same 1 d in
    record {
      range = g.range;
      some = omega (arith, g.some);
      few = omega (arith, g.few);
      differ = subst Distinct (sym (addresses-same d)) g.differ;
      each = λ e h. let m = in_map (normal_expander 1) d e h in subst (ReadExpander most) (sym m.2) (normal-expander most m.0 (g.each m.0 m.1));
    }

-- an accepted domain, of numbers that a file has room for
pub record Accepted (most : Setting) (d : Domain) : Type 0 where
  pub read : Read most d
  pub fits : FitsDomain d
  pub judged : judged_domain most.chain d ≡ good d

module _ (most : Setting) (d : Domain) (c : Accepted most d) where
  wired : Wired d
  wired = ((accepted_iff most d c.read most.chain).0 c.judged).0

  pub normal-back : form_in (form_of d) ≡ normal d
  normal-back = form-normal-back most d c.read c.fits wired

  normal-judged : judged_domain most.chain (normal d) ≡ good (normal d)
  normal-judged = normal-accepted 1 d most.chain c.judged

  normal-numbers : Numbers (normal d)
  normal-numbers = ((accepted_iff most (normal d) (normal-read most d c.read) most.chain).0 normal-judged).0.number

  -- its form is taken, and reads as the domain with what the form leaves out set to 1
  form-formed : formed most (form_of d) ≡ true
  unfolding formed
  form-formed =
      let e = normal-back in
      let a : unread most (form_in (form_of d)) ≡ false = ap (unread most) e ∙ read-unread most (normal d) (normal-read most d c.read) normal-numbers in
      let b : same_words (form_of (form_in (form_of d))) (form_of d) ≡ true =
      ap (λ (x : Domain). same_words (form_of x) (form_of d)) e ∙ ap (λ (l : List ℕ). same_words l (form_of d)) (form-normal 1 d) ∙ words_same (form_of d) in
      let k : is_good (judged_domain most.chain (form_in (form_of d))) ≡ true = ap (λ (x : Domain). is_good (judged_domain most.chain x)) e ∙ ap is_good normal-judged in
      rw (a, b, k) refl

  pub form-read : form_read most (form_of d) ≡ good (normal d)
  unfolding form_read
  form-read = rw (is_true (in_range most) ((range_iff most).1 c.read.range), form-formed) (ap good normal-back)

is-good : (x : Result Domain) → is_good x ≡ true → (d : Domain) × (x ≡ good d)
is-good (refused r) t = let z : ◌≡◌ {A = ℕ} 0 1 = cc in absurd (omega arith)
is-good (good d) t = (d, refl)

-- what is known of words that are taken
record Taken (most : Setting) (ws : List ℕ) : Type 0 where
  unread-none : unread most (form_in ws) ≡ false
  same : form_of (form_in ws) ≡ ws
  accepted : judged_domain most.chain (form_in ws) ≡ good (form_in ws)

taken : (most : Setting) (ws : List ℕ) → formed most ws ≡ true → Taken most ws
unfolding formed
taken most ws t =
    let n : Domain = form_in ws in
    let a = both (not (unread most n)) _ t in
    let b = both (same_words (form_of n) ws) _ a.1 in
    let y = is-good (judged_domain most.chain n) b.1 in
    record { unread-none = not-true _ a.0; same = same-words (form_of n) ws b.0; accepted = y.1 ∙ ap good (sym (judged-routable most.chain n y.0 y.1).0) }

module _ (most : Setting) (ws : List ℕ) (range : InRange most) where
  -- exactly the forms of accepted domains are taken
  pub formed_iff : Words ws → (formed most ws ≡ true) ↔ FormOf most ws
  formed_iff h = (
    λ t. let k = taken most ws t in
        record { domain = form_in ws; read = unread-read most (form_in ws) k.unread-none range (form-back ws); fits = form-fits ws h; accepted = k.accepted; words = k.same },
    λ f. subst (λ (l : List ℕ). formed most l ≡ true) f.words (form-formed most f.domain (record { read = f.read; fits = f.fits; judged = f.accepted })),
  )

  in_range_lem : in_range most ≡ true
  in_range_lem = is_true (in_range most) ((range_iff most).1 range)

  read_by : (b : Bool) → formed most ws ≡ b → form_read most ws ≡ unless b (refusal 1 0 0) (good (form_in ws))
  unfolding form_read
  read_by b e = rw (in_range_lem, e) refl

  -- reading a form is not refused 1 exactly where these words are the form of an accepted domain
  pub not_one_iff : Words ws → (form_read most ws ≢ refused (refusal 1 0 0)) ↔ FormOf most ws
  not_one_iff h = (
    λ n. by-test (formed most ws) (λ e. (formed_iff h).0 e) (λ e. absurd (n (read_by false e))),
    λ f e. never (refusal 1 0 0) (form_in ws) (sym e ∙ read_by true ((formed_iff h).1 f)),
  )

-- a call over a form is refused 1 exactly where reading the form is
late-one : {A : Type 0} (x : Result Domain) (k : Domain → Result A) → ((e : Domain) → Numbered Late (k e)) → then x k ≡ refused (refusal 1 0 0) → x ≡ refused (refusal 1 0 0)
late-one {A} (refused r) k late e = let q : r ≡ refusal 1 0 0 = cc in ap refused q
late-one (good d) k late e = let h : Late 1 = subst (Numbered Late) e (late d) in absurd (omega (arith, h.0))

then_one : {A B : Type 0} (x : Result A) (k : A → B) (r : Refusal) → then x (λ a. good (k a)) ≡ refused r → x ≡ refused r
then_one {A} {B} (refused s) k r e = let q : s ≡ r = cc in ap refused q
then_one (good a) k r e = never r (k a) (sym e)

module _ (most : Setting) (ws : List ℕ) (range : InRange most) (h : Words ws) {A B : Type 0} (k : Domain → Result A) (late : (e : Domain) → Numbered Late (k e)) (told : A → B) where
  answer-one : (y : Result B) → y ≡ then (then (form_read most ws) k) (λ a. good (told a)) → (y ≢ refused (refusal 1 0 0)) ↔ FormOf most ws
  answer-one y q = (
    λ n. (not_one_iff most ws range h).0 (λ e. n (q ∙ ap (λ (x : Result Domain). then (then x k) (λ a. good (told a))) e)),
    λ f e. (not_one_iff most ws range h).1 f (late-one (form_read most ws) k late (then_one (then (form_read most ws) k) told (refusal 1 0 0) (sym q ∙ e))),
  )

-- when each call, by its promise, is not refused 1
module _ (most : Setting) (ws : List ℕ) (range : InRange most) (h : Words ws) where
  pub tables_not_one : (before after : Entries) (answer : Result Counted) → TablesDone (form_tables most ws (room_of before)) answer before after → (answer ≢ refused (refusal 1 0 0)) ↔ FormOf most ws
  unfolding form_tables
  tables_not_one before after answer o = answer-one most ws range h (tables_for (room_of before)) (tables-late (room_of before)) (λ d. record { table_count = length (table_places d); word_count = needed d }) answer o.answers

  pub trace_not_one : (t : Entries) (q : Request) (before after : List ℕ) (answer : Result End) → TraceDone (form_trace most ws t (length before) q) answer before after
      → (trace_answer answer ≢ refused (refusal 1 0 0)) ↔ FormOf most ws
  unfolding form_trace
  trace_not_one t q before after answer o =
      answer-one most ws range h (λ d. traced_request d t (length before) q) (request-late t (length before) q) (λ x. record { outcome = x.outcome; last = x.last; phy = x.phy; count = length x.passed }) (trace_answer answer) o.answers

  pub list_not_one : (t : Entries) (requests before after : List ℕ) (answer : Result ℕ) → ListTraced (form_list most ws (room_of t) (length before) (request_count requests)) t requests answer before after
      → (answer ≢ refused (refusal 1 0 0)) ↔ FormOf most ws
  unfolding form_list
  list_not_one t requests before after answer o =
      answer-one most ws range h (list_for (room_of t) (length before) (request_count requests)) (list-late (room_of t) (length before) (request_count requests)) (λ d. request_count requests) answer o.answers

-- the form of an accepted file
module _ (setting : Setting) (file : List ℕ) (d : Domain) (b : Bytes file) (j : judged setting file ≡ good d) where
  pub file-accepted : Accepted setting d
  file-accepted = let r = (judged-file setting file d).0 j in record { read = read-good setting file d r.0; fits = read_fits setting file d b r.0; judged = r.1 }

  abbrev n : Domain
  n = normal d

  same : Alike n d
  same = normal-alike 1 d

  read : form_read setting (form_of d) ≡ good n
  read = form-read setting d file-accepted

  -- tables, their bits and the answer are those over the file
  pub formed-tables : (before after after' : Entries) (answer answer' : Result Counted) → TablesDone (form_tables setting (form_of d) (room_of before)) answer before after
      → TablesDone (table_call setting file (room_of before)) answer' before after' → (answer ≡ answer') × (after ≡ after')
  unfolding form_tables table_call
  formed-tables before after after' answer answer' o p =
      let room = room_of before in
      let m = needed-alike n d same in
      let f : Result Domain → Result Domain = λ x. then x (tables_for room) in
      let x : then (tables_for room n) counts_in ≡ then (tables_for room d) counts_in =
      ap (λ (k : ℕ). then (unless (leb k room.words) (refusal 16 0 0) (unless (leb (bytes_for k) room.bits) (refusal 18 0 0) (good n))) counts_in) m ∙ counted (leb (needed d) room.words) (leb (bytes_for (needed d)) room.bits) in
      let y : tables_after (tables_for room n) before ≡ tables_after (tables_for room d) before =
      ap (λ (k : ℕ). tables_after (unless (leb k room.words) (refusal 16 0 0) (unless (leb (bytes_for k) room.bits) (refusal 18 0 0) (good n))) before) m ∙ put (leb (needed d) room.words) (leb (bytes_for (needed d)) room.bits) in (
        o.answers ∙ ap (λ z. then (f z) counts_in) read ∙ x ∙ sym (p.answers ∙ ap (λ z. then (f z) counts_in) j),
        o.left ∙ ap (λ z. tables_after (f z) before) read ∙ y ∙ sym (p.left ∙ ap (λ z. tables_after (f z) before) j),
      )
    where
      counted : (p q : Bool) → then (unless p (refusal 16 0 0) (unless q (refusal 18 0 0) (good n))) counts_in ≡ then (unless p (refusal 16 0 0) (unless q (refusal 18 0 0) (good d))) counts_in
      counted false q = refl
      counted true false = refl
      counted true true = rw (places-alike n d same, needed-alike n d same) refl

      put : (p q : Bool) → tables_after (unless p (refusal 16 0 0) (unless q (refusal 18 0 0) (good n))) before ≡ tables_after (unless p (refusal 16 0 0) (unless q (refusal 18 0 0) (good d))) before
      put false q = refl
      put true false = refl
      put true true = ap (λ (l : List ℕ). put_before l before) (tables-alike n d same)

  -- and so are traces, over any words and bits
  traces-same : (t : Entries) (bytes : ℕ) (q : Request) → form_trace setting (form_of d) t bytes q ≡ trace_call setting file t bytes q
  unfolding form_trace trace_call
  traces-same t bytes q =
      let k : Domain → Result Traced = λ x. traced_request x t bytes q in
      ap (λ (z : Result Domain). then z k) read ∙ request-alike n d same t bytes q ∙ sym (ap (λ (z : Result Domain). then z k) j)

  pub formed-trace : (t : Entries) (q : Request) (before after after' : List ℕ) (answer answer' : Result End) → TraceDone (form_trace setting (form_of d) t (length before) q) answer before after
      → TraceDone (trace_call setting file t (length before) q) answer' before after' → (trace_answer answer ≡ trace_answer answer') × (after ≡ after')
  formed-trace t q before after after' answer answer' o p =
      let e = traces-same t (length before) q in
      let w = subst (λ x. TraceDone x answer before after) e o in
      (w.answers ∙ sym p.answers, w.bytes ∙ sym p.bytes)

  -- and lists of requests are those on the file's domain
  pub formed-list : (t : Entries) (requests before after : List ℕ) (answer : Result ℕ) → ListTraced (form_list setting (form_of d) (room_of t) (length before) (request_count requests)) t requests answer before after
      → ListTraced (then (judged setting file) (list_for (room_of t) (length before) (request_count requests))) t requests answer before after
  unfolding form_list
  formed-list t requests before after answer o =
      let room = room_of t in
      let m = needed-alike n d same in
      let f : Result Domain → Result Domain = λ x. then x (list_for room (length before) (request_count requests)) in
      let g : ℕ → Domain → Result Domain = λ k x. unless (leb k room.words && leb (request_count requests) (length before)) (refusal 16 0 0) (unless (leb (bytes_for k) room.bits) (refusal 18 0 0) (good x)) in
      let c : Bool = leb (needed d) room.words && leb (request_count requests) (length before) in
      let e : Bool = leb (bytes_for (needed d)) room.bits in
      record {
        answers = o.answers ∙ ap (λ z. then (f z) (λ x. good (request_count requests))) read ∙ ap (λ (k : ℕ). then (g k n) (λ x. good (request_count requests))) m ∙ counted c e ∙ sym (ap (λ z. then (f z) (λ x. good (request_count requests))) j);
        words = o.words ∙ ap (λ z. list_after (f z) t requests before) read ∙ ap (λ (k : ℕ). list_after (g k n) t requests before) m ∙ put c e ∙ sym (ap (λ z. list_after (f z) t requests before) j);
      }
    where
      counted : (p q : Bool) → then (unless p (refusal 16 0 0) (unless q (refusal 18 0 0) (good n))) (λ x. good (request_count requests))
          ≡ then (unless p (refusal 16 0 0) (unless q (refusal 18 0 0) (good d))) (λ x. good (request_count requests))
      counted false q = refl
      counted true false = refl
      counted true true = refl

      put : (p q : Bool) → list_after (unless p (refusal 16 0 0) (unless q (refusal 18 0 0) (good n))) t requests before ≡ list_after (unless p (refusal 16 0 0) (unless q (refusal 18 0 0) (good d))) t requests before
      put false q = refl
      put true false = refl
      put true true = ap (λ (l : List ℕ). l ++ drop (request_count requests) before) (answers-alike n d same t requests)

-- demand 3 of the calls over a form, from what they promise
pub demand3-form : (setting : Setting) (ws : List ℕ) (d : Domain) → form_read setting ws ≡ good d → Demand3 d (form_tables setting ws) (form_trace setting ws) setting.chain
unfolding form_read form_tables form_trace judged_request
demand3-form setting ws d e =
    let a = unless-good (in_range setting) (refusal 22 0 0) _ d e in
    let b = unless-good (formed setting ws) (refusal 1 0 0) (good (form_in ws)) d a.1 in
    let q : form_in ws ≡ d = good-one (form_in ws) d b.1 in
    let k = taken setting ws (is_true (formed setting ws) b.0) in
    let r : Read setting d = subst (Read setting) q (unread-read setting (form_in ws) k.unread-none ((range_iff setting).0 a.0) (form-back ws)) in
    let j : judged_domain setting.chain d ≡ good d = subst (λ (x : Domain). judged_domain setting.chain x ≡ good x) q k.accepted in
    subst (λ (x : Result Domain). Demand3 d (λ room. then x (tables_for room)) (λ t bytes q. then x (λ y. traced_request y t bytes q)) setting.chain) (j ∙ sym e)
    (demand3 setting d r (judged-routable setting.chain d d j).1 setting.chain)

-- each answer of a list over a form is that of the trace over the form by itself, with 64 bytes
pub each-answer-form : (setting : Setting) (ws : List ℕ) (t : Entries) (requests before after : List ℕ) (n : ℕ)
    → ListTraced (form_list setting ws (room_of t) (length before) (request_count requests)) t requests (good n) before after
    → (k : ℕ) → k < n → get_or requests (2 * k) 0 < 65536
    → get_or after k 0 ≡ packed end_packed (then (form_trace setting ws t 64 (request (get_or requests (2 * k) 0 / 256) (get_or requests (2 * k) 0 % 256) (get_or requests (2 * k + 1) 0))) report)
unfolding form_list form_trace
each-answer-form setting ws t requests before after n o k h low =
    let f : Domain → Result Domain = list_for (room_of t) (length before) (request_count requests) in
    let a = then-good (then (form_read setting ws) f) (λ x. good (request_count requests)) n (sym o.answers) in
    let z : n ≡ request_count requests = sym (good-one (request_count requests) n a.2) in
    let c = then-good (form_read setting ws) f a.0 a.1 in
    let u = unless-good (leb (needed c.0) (room_of t).words && leb (request_count requests) (length before)) (refusal 16 0 0) _ a.0 c.2 in
    let v = unless-good (leb (bytes_for (needed c.0)) (room_of t).bits) (refusal 18 0 0) (good c.0) a.0 u.1 in
    let e : form_read setting ws ≡ good a.0 = c.1 ∙ ap good (good-one c.0 a.0 v.1) in
    let w : ℕ = get_or requests (2 * k) 0 in
    let s : ℕ = get_or requests (2 * k + 1) 0 in
    let x : after ≡ answers_of a.0 t requests ++ drop (request_count requests) before = o.words ∙ ap (λ y. list_after y t requests before) a.1 in
    let y : one_answer a.0 t w s ≡ packed end_packed (then (traced_request a.0 t 64 (request (w / 256) (w % 256) s)) report) = rw (lt-ltb w 65536 low) refl in
    ap (λ (l : List ℕ). get_or l k 0) x ∙ get_or-append (answers_of a.0 t requests) (drop (request_count requests) before) 0 k (omega (arith, length-answers a.0 t requests))
    ∙ each-answer a.0 t k requests (omega arith) ∙ y ∙ sym (ap (λ q. packed end_packed (then (then q (λ d. traced_request d t 64 (request (w / 256) (w % 256) s))) report)) e)

-- decode once, trace many: after a form was made of a file, its words are the form of the file's domain
pub record Decoded (setting : Setting) (file after : List ℕ) (n w : ℕ) : Type 0 where
  pub domain : Domain
  pub accepted : judged setting file ≡ good domain
  pub expanders : n ≡ length domain
  pub form : take w after ≡ form_of domain

pub decoded : (setting : Setting) (file before after : List ℕ) (n w : ℕ) → FormDone (form_call setting file (length before)) (good (record { expander_count = n; word_count = w })) before after → Decoded setting file after n w
unfolding form_call
decoded setting file before after n w done =
    let told : FormCounts = record { expander_count = n; word_count = w } in
    let a = then-good (then (judged setting file) (form_for (length before))) form_counts told (sym done.answers) in
    let d : Domain = a.0 in
    let p : FormCounts = record { expander_count = length d; word_count = length (form_of d) } in
    let q : p ≡ told = good-one p told a.2 in
    let c = then-good (judged setting file) (form_for (length before)) d a.1 in
    let u = unless-good (leb (length (form_of c.0)) (length before)) (refusal 16 0 0) (good c.0) d c.2 in
    let l : length (form_of d) ≡ w = ap (λ (x : FormCounts). x.word_count) q in
    let s : after ≡ form_of d ++ drop (length (form_of d)) before = done.words ∙ ap (λ y. form_after y before) a.1 in
    record {
      domain = d;
      accepted = c.1 ∙ ap good (good-one c.0 d u.1);
      expanders = sym (ap (λ (x : FormCounts). x.expander_count) q);
      form = ap (take w) s ∙ take_at (form_of d) (drop (length (form_of d)) before) w l;
    }
