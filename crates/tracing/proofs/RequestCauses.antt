-- Causes 15 to 18, and what a request that passes them has.
use Prim.Native.Nat.{ℕ, ◌≤◌}
use mathlib.Core.Path.{◌≡◌, refl, sym, ◌∙◌}
use mathlib.Core.Logic.{inl, inr, ◌↔◌, ⊎_elim}
use mathlib.Core.Bool.{Bool, not, ◌||◌, ◌&&◌}
use mathlib.Core.List.{List}
use lib.ListN.{length}
use lib.Dec.{T, eqb, ltb, leb, eqb→eq, ltb→lt, lt→ltb, leb→le, le→leb, not_T, T_not}
use Rattle.tables.specs.WiringDefinitions.{Result, bytes_for, Refusal, refused, good, unless, refusal, Domain, phy_at, to_end, Setting, domain_read}
use Rattle.tables.specs.filling.Tables.{needed}
use Rattle.tables.specs.filling.Entries.{Entries, Room, room_of, counted}
use Rattle.tables.proofs.WiringLemmas.{tests, or_cases, or_left, or_right, eq→eqb, unless-good, good-unless}
use Rattle.tables.specs.JudgingCall.{judged_domain}
use Rattle.tables.specs.lists.PreparedLists.{judged_in}
use Rattle.tracing.specs.declared.End.{End}
use Rattle.tracing.specs.Trace.{Request, traced, allowed, requested, trace_call, traced_request, TraceDone}
use Rattle.tracing.specs.TraceCauses.{Asks}
use Rattle.tracing.specs.Answers.{Walked, request_in}

pub allowed-by : (d : Domain) (i p : ℕ) {a b c : Bool} → ltb i (length d) ≡ a → eqb p 255 ≡ b → to_end (phy_at d i p) ≡ c
    → allowed d i p ≡ (a && (b || c))
unfolding allowed
allowed-by d i p e f g = rw (e, f, g)

module _ (r : Room) (bytes : ℕ) (q : Request) (d : Domain) where
  pub requested-by : {a b c e f : Bool} → allowed d q.start q.arrival ≡ a → leb (needed d) r.words ≡ b → leb (length d) bytes ≡ c → leb (bytes_for (needed d)) r.bits ≡ e
      → eqb q.address 0 ≡ f
      → requested q r bytes d ≡ unless a (refusal 15 0 0) (unless (b && c) (refusal 16 0 0) (unless e (refusal 18 0 0) (unless (not f) (refusal 17 0 0) (good d))))
  unfolding requested
  requested-by e f g h i = rw (e, f, g, h, i)

  -- a request passes causes 15 to 18 exactly when none of them holds
  asked : (x : Domain) → requested q r bytes d ≡ good x → Asks q r bytes d
  unfolding requested allowed
  asked x e =
      let i = q.start in
      let p = q.arrival in
      let a = unless-good (allowed d i p) (refusal 15 0 0) _ x e in
      let b = unless-good (leb (needed d) r.words && leb (length d) bytes) (refusal 16 0 0) _ x a.1 in
      let k = unless-good (leb (bytes_for (needed d)) r.bits) (refusal 18 0 0) _ x b.1 in
      let c = unless-good (not (eqb q.address 0)) (refusal 17 0 0) (good d) x k.1 in
      let t = a.0 in
      let u = b.0 in
      record {
        start = ltb→lt i (length d) (search tests);
        arrives_by = ⊎_elim (λ v. inl (eqb→eq p 255 v)) inr (or_cases (eqb p 255) (to_end (phy_at d i p)) (search tests));
        enough = record { words = leb→le (needed d) r.words (search tests); bits = leb→le (bytes_for (needed d)) r.bits k.0 };
        enough_bytes = leb→le (length d) bytes (search tests);
        nonzero = λ f. T_not (eqb q.address 0) c.0 (eq→eqb q.address 0 f);
      }

  passes : Asks q r bytes d → requested q r bytes d ≡ good d
  unfolding requested allowed
  passes a =
      let i = q.start in
      let p = q.arrival in
      let s = lt→ltb i (length d) a.start in
      let b : T (eqb p 255 || to_end (phy_at d i p)) =
      ⊎_elim (λ e. or_left (eqb p 255) (to_end (phy_at d i p)) (eq→eqb p 255 e)) (or_right (eqb p 255) (to_end (phy_at d i p))) a.arrives_by in
      let n = le→leb (needed d) r.words a.enough.words in
      let m = le→leb (length d) bytes a.enough_bytes in
      let z = not_T (eqb q.address 0) (λ t. a.nonzero (eqb→eq q.address 0 t)) in
      good-unless (allowed d i p) (refusal 15 0 0) _ (search tests)
      ∙ good-unless (leb (needed d) r.words && leb (length d) bytes) (refusal 16 0 0) _ (search tests)
      ∙ good-unless (leb (bytes_for (needed d)) r.bits) (refusal 18 0 0) _ (le→leb (bytes_for (needed d)) r.bits a.enough.bits)
      ∙ good-unless (not (eqb q.address 0)) (refusal 17 0 0) (good d) z

  pub requested_iff : ((x : Domain) × (requested q r bytes d ≡ good x)) ↔ Asks q r bytes d
  requested_iff = (λ o. asked o.0 o.1, λ a. (d, passes a))

  -- there is a byte for each expander
  pub room : {x : Domain} → good x ≡ requested q r bytes d → length d ≤ bytes
  room {x} o = (asked x (sym o)).enough_bytes

module _ (d : Domain) (t : Entries) (q : Request) (before : List ℕ) where
  pub answer_no : {r : Refusal} → refused r ≡ requested q (room_of t) (length before) d
      → TraceDone (traced_request d t (length before) q) (refused r) before before
  unfolding traced_request
  answer_no {r} e = rw (sym e) (record { answers = refl; bytes = refl })

  pub answer_yes : {x : Domain} {end : End} {now : List ℕ} → good x ≡ requested q (room_of t) (length before) d
      → Walked (traced d (counted t) q) end before now → TraceDone (traced_request d t (length before) q) (good end) before now
  unfolding traced_request
  answer_yes e w = rw (sym e) (record { answers = w.ends; bytes = w.bytes })

-- the trace call past causes 1 to 6
module _ (chain first low : ℕ) (d : Domain) (t : Entries) (before : List ℕ) (q : Request) where
  pub rows-refused : (r : Refusal) → judged_in chain first low d ≡ refused r → TraceDone (request_in chain first low d t (length before) q) (refused r) before before
  unfolding request_in
  rows-refused r e = rw e (record { answers = refl; bytes = refl })

  pub rows-done : (answer : Result End) (after : List ℕ) → judged_in chain first low d ≡ good d
      → TraceDone (traced_request d t (length before) q) answer before after → TraceDone (request_in chain first low d t (length before) q) answer before after
  unfolding request_in
  rows-done answer after e a = rw e a

module _ (setting : Setting) (file : List ℕ) (t : Entries) (before : List ℕ) (q : Request) where
  pub call-refused : (r : Refusal) → domain_read setting file ≡ refused r → TraceDone (trace_call setting file t (length before) q) (refused r) before before
  unfolding trace_call
  call-refused r e = rw e (record { answers = refl; bytes = refl })

  pub call-done : (first low : ℕ) (d : Domain) (answer : Result End) (after : List ℕ) → domain_read setting file ≡ good d → judged_in setting.chain first low d ≡ judged_domain setting.chain d
      → TraceDone (request_in setting.chain first low d t (length before) q) answer before after → TraceDone (trace_call setting file t (length before) q) answer before after
  unfolding trace_call request_in
  call-done first low d answer after e j a = rw e (rw j at a)
