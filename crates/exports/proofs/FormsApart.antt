-- Bit 63 of the answers of the calls that make a form or go over one; and of each answer to a list of requests.
use Prim.Native.Nat.{ℕ, ◌*◌, ◌/◌, ◌%◌, ◌^◌, ◌≤◌, ◌<◌}
use mathlib.Core.Path.{◌≡◌, refl, subst}
use mathlib.Core.Logic.{inl, inr}
use mathlib.Core.Bool.{not, ◌&&◌}
use mathlib.Core.List.{List, [], ◌∷◌}
use native.Mathlib.Omega.{arith}
use lib.ListN.{length, length-append}
use lib.Dec.{leb, ltb, ltb→lt}
use borrow.Author.Tests.{not-true}
use Rattle.frames.specs.Bits.{bytes_for}
use Rattle.frames.specs.Refusals.{good, then, refusal}
use Rattle.files.specs.declared.Setting.{Setting}
use Rattle.files.specs.declared.Phy.{Phy}
use Rattle.files.specs.Lists.{In}
use Rattle.files.specs.Settings.{in_range}
use Rattle.files.specs.Domain.{Expander, Domain}
use Rattle.files.specs.ReadDomain.{Bytes}
use Rattle.files.proofs.CallResults.{both}
use Rattle.files.proofs.ListMembers.{was_true}
use Rattle.files.proofs.SettingRanges.{range_iff}
use Rattle.tables.specs.filling.Tables.{needed}
use Rattle.tables.specs.filling.Entries.{Entries, Room}
use Rattle.tables.specs.JudgingCall.{judged, tables_for, counts_in}
use Rattle.tracing.specs.Trace.{Request, request, report}
use Rattle.tracing.specs.RequestLists.{one_traced, request_count, list_for}
use Rattle.forms.specs.Form.{form_phys, form_expanders, form_of, form_in}
use Rattle.forms.specs.FormCalls.{Words, unread, formed, form_read, form_for, form_call, form_tables, form_trace, form_list}
use Rattle.forms.specs.Calls.{form_counts, requests_in}
use Rattle.forms.proofs.FormDomains.{form-back, form-fits, unread-read}
use Rattle.exports.specs.Packing.{number, counts, form_packed, end_packed}
use Rattle.exports.specs.AnswerParts.{Itself, CountsBack, FormBack, EndBack}
use Rattle.exports.specs.RefusalBit.{ToldApart}
use Rattle.exports.proofs.RefusalBit.{Tells, Yields, tells, tells-unless, tells-then, no_place}
use Rattle.exports.proofs.RefusalPlaces.{ReadBytes, judged-tells}
use Rattle.exports.proofs.DomainCounts.{few-expanders, few-phys}
use Rattle.exports.proofs.JudgingApart.{halves, counts_yield, room-tells}
use Rattle.exports.proofs.StepsFit.{TracedFits}
use Rattle.exports.proofs.TracesApart.{end-yields, request-tells}

-- a form has two words for each expander and two for each phy
phys-words : (d : Domain) (φs : List Phy) → length (form_phys d φs) ≤ 2 * length φs
phys-words d [] = omega arith
phys-words d (φ ∷ φs) = let r = phys-words d φs in omega arith

expanders-words : (d es : Domain) → ((e : Expander) → In e es → length e.phys ≤ 128) → length (form_expanders d es) ≤ 258 * length es
unfolding form_expanders
expanders-words d [] h = omega arith
expanders-words d (e ∷ es) h =
    let a = length-append (form_phys d e.phys) (form_expanders d es) in
    let b = phys-words d e.phys in
    let c = h e (inl refl) in
    let r = expanders-words d es (λ x j. h x (inr j)) in
    omega arith

module _ (setting : Setting) where
  -- making a form
  pub compact_apart : (file : List ℕ) (room : ℕ) → Bytes file → ToldApart form_packed FormBack (then (form_call setting file room) form_counts)
  unfolding form_call form_of
  compact_apart file room b =
      tells form_packed FormBack _ (tells-then (ReadBytes setting) (Yields form_packed FormBack) (form_call setting file room) form_counts
      (tells-then (ReadBytes setting) (ReadBytes setting) (judged setting file) (form_for room) (judged-tells setting file b) (λ d _ r.
      tells-unless (ReadBytes setting) (leb (length (form_of d)) room) (refusal 16 0 0) (good d) (no_place 16 (omega arith)) (λ _. r)))
      (λ d _ r.
      let n = few-expanders setting d r in
      let w = expanders-words d d (few-phys setting d r) in
      halves (length d) (length (form_of d)) (omega arith) (omega arith)))

  -- 22 and 1
  form-tells : (ws : List ℕ) → Words ws → Tells (ReadBytes setting) (form_read setting ws)
  unfolding form_read formed
  form-tells ws h =
      tells-unless (ReadBytes setting) (in_range setting) (refusal 22 0 0) _ (no_place 22 (omega arith)) (λ t.
      tells-unless (ReadBytes setting) (formed setting ws) (refusal 1 0 0) (good (form_in ws)) (no_place 1 (omega arith)) (λ u.
      let n = not-true (unread setting (form_in ws)) (both (not (unread setting (form_in ws))) _ u).0 in
      record { read = unread-read setting (form_in ws) n ((range_iff setting).0 (was_true (in_range setting) t)) (form-back ws); fits = form-fits ws h }))

  module _ (ws : List ℕ) (h : Words ws) where
    -- tables over a form
    pub form-tables-apart : (room : Room) → ToldApart counts CountsBack (then (form_tables setting ws room) counts_in)
    unfolding form_tables
    form-tables-apart room =
        tells counts CountsBack _ (tells-then (ReadBytes setting) (Yields counts CountsBack) (form_tables setting ws room) counts_in
        (tells-then (ReadBytes setting) (ReadBytes setting) (form_read setting ws) (tables_for room) (form-tells ws h) (λ d _. room-tells setting room d)) (λ d _. counts_yield setting d))

    -- a trace over a form
    pub form-trace-apart : (t : Entries) (bytes : ℕ) (q : Request) → q.start < 256 → ToldApart end_packed EndBack (then (form_trace setting ws t bytes q) report)
    unfolding form_trace
    form-trace-apart t bytes q s =
        tells end_packed EndBack _ (tells-then (TracedFits 64) (Yields end_packed EndBack) (form_trace setting ws t bytes q) report
        (tells-then (ReadBytes setting) (TracedFits 64) (form_read setting ws) _ (form-tells ws h) (λ d _. request-tells setting t bytes q s d)) (λ r _. end-yields r))

    -- a list of requests over a form
    pub form-list-apart : (room : Room) (answers : ℕ) (requests : List ℕ) → length requests < 2 ^ 64
        → ToldApart number Itself (then (form_list setting ws room answers (request_count requests)) (requests_in requests))
    unfolding form_list
    form-list-apart room answers requests l =
        tells number Itself _ (tells-then (ReadBytes setting) (Yields number Itself) (form_list setting ws room answers (request_count requests)) (requests_in requests)
        (tells-then (ReadBytes setting) (ReadBytes setting) (form_read setting ws) (list_for room answers (request_count requests)) (form-tells ws h) (λ d _ r.
        tells-unless (ReadBytes setting) (leb (needed d) room.words && leb (request_count requests) answers) (refusal 16 0 0) _ (no_place 16 (omega arith)) (λ _.
        tells-unless (ReadBytes setting) (leb (bytes_for (needed d)) room.bits) (refusal 18 0 0) (good d) (no_place 18 (omega arith)) (λ _. r))))
        (λ d _ _. (omega arith, refl)))

    -- and each of its answers
    pub one_apart : (d : Domain) → form_read setting ws ≡ good d → (t : Entries) (w s : ℕ) → ToldApart end_packed EndBack (then (one_traced d t w s) report)
    one_apart d e t w s =
        tells end_packed EndBack _ (tells-then (TracedFits 64) (Yields end_packed EndBack) (one_traced d t w s) report
        (tells-unless (TracedFits 64) (ltb w 65536) (refusal 15 0 0) _ (no_place 15 (omega arith)) (λ u.
        let k = ltb→lt w 65536 (was_true (ltb w 65536) u) in
        request-tells setting t 64 (request (w / 256) (w % 256) s) (omega arith) d (subst (Tells (ReadBytes setting)) e (form-tells ws h)))) (λ r _. end-yields r))
