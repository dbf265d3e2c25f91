-- What the calls over a form promise, from what those over rows promise: the refusals of judging are 1, and the others stay.
use Prim.Native.Nat.{ℕ, ◌*◌, ◌≤◌, ◌<◌}
use mathlib.Core.Path.{◌≡◌, refl, sym, ap, subst, ◌∙◌}
use mathlib.Core.Logic.{◌≢◌, inl, inr}
use mathlib.Core.Bool.{Bool, true, false, not, ◌&&◌}
use mathlib.Core.List.{List, ◌++◌}
use native.Mathlib.Omega.{arith}
use lib.ListN.{length, get_or, drop, replicate, length-replicate}
use lib.Dec.{T, eqb, leb, le→leb}
use borrow.Author.Tests.{le-leb, lt-leb, eq-eqb, ne_eqb, not-false, not-true}
use Rattle.frames.specs.Refusals.{Result, refused, good, unless, then, refusal}
use Rattle.frames.specs.declared.Refusal.{Refusal}
use Rattle.frames.specs.Bits.{bytes_for}
use Rattle.frames.proofs.FrameRefusals.{refused-one}
use Rattle.files.specs.declared.Setting.{Setting}
use Rattle.files.specs.declared.Phy.{Phy}
use Rattle.files.specs.declared.Phy.TheVariants.{Vacant, Present}
use Rattle.files.specs.declared.PhyFields.{PhyFields}
use Rattle.files.specs.Lists.{In}
use Rattle.files.specs.Settings.{in_range}
use Rattle.files.specs.Domain.{Expander, Domain, no_expander, expander_at, phy_at, address_of, to_expander, number_of}
use Rattle.files.specs.File.{ranged, domain_read}
use Rattle.files.specs.ReadDomain.{Read}
use Rattle.wiring.specs.phys.Checks.{RoomFor}
use Rattle.wiring.specs.index.AddressIndex.{IndexRoom}
use Rattle.files.proofs.SettingRanges.{range_iff}
use Rattle.files.proofs.CallResults.{never, both}
use Rattle.files.proofs.ListMembers.{was_true, get_d_in}
use Rattle.files.specs.Rows.{row_words}
use Rattle.wiring.proofs.phys.WiredPhys.{Wired, far-below}
use Rattle.tables.specs.filling.Tables.{needed}
use Rattle.tables.specs.filling.Entries.{Entries, Room, room_of}
use Rattle.tables.specs.declared.Counted.{Counted}
use Rattle.tables.specs.JudgingCall.{judged_domain, tables_for, TablesDone}
use Rattle.tables.specs.lists.PreparedLists.{judged_in, OwnDone}
use Rattle.tables.proofs.AcceptedDomains.{judged-routable, accepted_iff}
use Rattle.tables.proofs.lists.LevelListsByOwn.{judged-read, read_done}
use Rattle.tables.proofs.TableRefusals.{Numbered, numbered-unless, numbered-then, domain-numbered}
use Rattle.tracing.specs.declared.End.{End}
use Rattle.tracing.specs.Trace.{Request, Traced, allowed, requested, traced_request, TraceDone}
use Rattle.tracing.specs.Answers.{request_in}
use Rattle.tracing.specs.RequestLists.{request_count, list_for, list_in, ListTraced}
use Rattle.forms.specs.Form.{form_of, form_in}
use Rattle.forms.specs.FormCalls.{bad_phy, unread, is_good, same_words, formed, form_read, form_for, form_call, form_tables, form_trace, form_list}
use Rattle.forms.specs.declared.FormCounts.{FormCounts}
use Rattle.forms.specs.Calls.{FormDone}
use Rattle.forms.specs.FormRows.{right_expanders, opens, as_form, over_form, SmallPhy, FormRoom}
use Rattle.wiring.specs.index.AddressIndex.{slots_before}
use Rattle.forms.proofs.FormRows.{form-few}
use Rattle.forms.proofs.BadPlaces.{Late, Early, late-stays, early_one}
use Rattle.forms.proofs.FormDomains.{form-back, numbers_of, phys-of, unread-read, small_of}
use Rattle.forms.proofs.RightWords.{Borne, Answered, words_same, same-words, right_form, form_right}

-- what a test leaves of a phy
fields-borne : (f : PhyFields) → ranged f ≡ true → f.device_type ≢ 0 → f.address ≢ 0
fields-borne f t n z =
    let a = both (leb f.device_type 3) _ t in
    let b = both (leb f.attribute 2) _ a.1 in
    let x = ne_eqb f.device_type 0 n in
    let y = eq-eqb f.address 0 z in
    let g : ◌≡◌ {A = Bool} false true = rw (x, y) at b.1 in
    let k : ◌≡◌ {A = ℕ} 0 1 = cc in absurd (omega arith)

borne-of : (φ : Phy) → bad_phy φ ≡ false → Borne φ
borne-of (Vacant r) e = tt
borne-of (Present f) e = fields-borne f (not-false _ e)

-- an accepted domain's attached expanders have numbers
module _ (d : Domain) (w : Wired d) (few : length d ≤ 64) (small : (e : Expander) → In e d → (φ : Phy) → In φ e.phys → SmallPhy φ) where
  answered : (e : Expander) → In e d → (φ : Phy) → In φ e.phys → Answered d φ
  answered e k φ h = go φ refl (small e k φ h)
    where
      i : (n : ℕ) × (n < length d) × (expander_at d n ≡ e)
      i = get_d_in d no_expander e k

      p : (n : ℕ) × (n < length e.phys) × (get_or e.phys n (Vacant 0) ≡ φ)
      p = get_d_in e.phys (Vacant 0) φ h

      here : phy_at d i.0 p.0 ≡ φ
      here = ap (λ (x : Expander). get_or x.phys p.0 (Vacant 0)) i.2 ∙ p.2

      go : (ψ : Phy) → φ ≡ ψ → SmallPhy φ → Answered d φ
      go (Vacant r) q s = subst (Answered d) (sym q) tt
      go (Present f) q s = subst (Answered d) (sym q) (
        (subst SmallPhy q s).1.1,
        λ t. let x : phy_at d i.0 p.0 ≡ Present f = here ∙ q in
            let y : T (to_expander (phy_at d i.0 p.0)) = subst (λ (ψ : Phy). T (to_expander ψ)) (sym x) (le→leb 2 f.device_type t) in
            let z = subst (λ (ψ : Phy). number_of d (address_of ψ) < length d) x (far-below d w i.0 p.0 y) in
            (z, omega arith),
      )

-- a judged domain, as it is read
abbrev pub as_read : Result Domain → Result Domain
as_read (refused r) = refused (refusal 1 0 0)
as_read (good e) = good e

-- reading a form, past 22
module _ (most : Setting) (ws : List ℕ) (range : in_range most ≡ true) where
  pub opened-read : opens most ws ≡ true → Read most (form_in ws)
  unfolding opens
  opened-read o = unread-read most (form_in ws) (unread-of o) ((range_iff most).0 (was_true (in_range most) range)) (form-back ws)
    where
      unread-of : (not (unread most (form_in ws)) && right_expanders (form_in ws) (form_in ws) 0 ws) ≡ true → unread most (form_in ws) ≡ false
      unread-of h = not-true _ (both (not (unread most (form_in ws))) _ h).0

  read_as : (a b c : Bool) → unread most (form_in ws) ≡ a → same_words (form_of (form_in ws)) ws ≡ b → is_good (judged_domain most.chain (form_in ws)) ≡ c
      → form_read most ws ≡ unless (not a && (b && c)) (refusal 1 0 0) (good (form_in ws))
  unfolding form_read formed
  read_as a b c qa qb qc = rw (range, qa, qb, qc) refl

  pub read_opened : opens most ws ≡ true → form_read most ws ≡ as_read (judged_domain most.chain (form_in ws))
  unfolding opens
  read_opened o = go (judged_domain most.chain (form_in ws)) refl
    where
      t : (unread most (form_in ws) ≡ false) × (right_expanders (form_in ws) (form_in ws) 0 ws ≡ true)
      t = let b = both (not (unread most (form_in ws))) _ o in (not-true _ b.0, b.1)

      same : same_words (form_of (form_in ws)) ws ≡ true
      same =
          let e = right_form (form_in ws) (numbers_of most (form_in ws) t.0) (λ e k φ h. borne-of φ (phys-of most (form_in ws) t.0 e k φ h)) ws t.1 in
          ap (same_words (form_of (form_in ws))) e ∙ words_same (form_of (form_in ws))

      go : (x : Result Domain) → judged_domain most.chain (form_in ws) ≡ x → form_read most ws ≡ as_read x
      go (refused r) q = read_as false true false t.0 same (ap is_good q)
      go (good e) q = read_as false true true t.0 same (ap is_good q) ∙ ap good (judged-routable most.chain (form_in ws) e q).0

  pub read_closed : opens most ws ≡ false → form_read most ws ≡ refused (refusal 1 0 0)
  unfolding opens
  read_closed o = go (unread most (form_in ws)) refl
    where
      x : Result Domain
      x = judged_domain most.chain (form_in ws)

      after : unread most (form_in ws) ≡ false → (y : Result Domain) → judged_domain most.chain (form_in ws) ≡ y → (b : Bool) → same_words (form_of (form_in ws)) ws ≡ b → form_read most ws ≡ refused (refusal 1 0 0)
      after u (refused r) q true s = read_as false true false u s (ap is_good q)
      after u (refused r) q false s = read_as false false false u s (ap is_good q)
      after u (good e) q false s = read_as false false true u s (ap is_good q)
      after u (good e) q true s =
          let g = unread-read most (form_in ws) u ((range_iff most).0 (was_true (in_range most) range)) (form-back ws) in
          let j : judged_domain most.chain (form_in ws) ≡ good (form_in ws) = q ∙ ap good (sym (judged-routable most.chain (form_in ws) e q).0) in
          let w = ((accepted_iff most (form_in ws) g most.chain).0 j).0 in
          let r = form_right (form_in ws) (answered (form_in ws) w (form-few ws) (small_of ws)) in
          let z : right_expanders (form_in ws) (form_in ws) 0 ws ≡ true = subst (λ (l : List ℕ). right_expanders (form_in ws) (form_in ws) 0 l ≡ true) (same-words (form_of (form_in ws)) ws s) r in
          let k : ◌≡◌ {A = Bool} true false = rw (u, z) at o in
          let m : ◌≡◌ {A = ℕ} 0 1 = cc in absurd (omega arith)

      go : (a : Bool) → unread most (form_in ws) ≡ a → form_read most ws ≡ refused (refusal 1 0 0)
      go true u = read_as true (same_words (form_of (form_in ws)) ws) (is_good x) u refl refl
      go false u = after u x refl (same_words (form_of (form_in ws)) ws) refl

pub read_outside : (most : Setting) (ws : List ℕ) → in_range most ≡ false → form_read most ws ≡ refused (refusal 22 0 0)
unfolding form_read
read_outside most ws e = rw e refl

late-same : {A : Type 0} (x : Result A) → Numbered Late x → over_form x ≡ x
late-same (refused r) h = ap refused (late-stays r h)
late-same (good a) h = refl

judged_early : (chain : ℕ) (d : Domain) → Numbered Early (judged_domain chain d)
judged_early chain d = domain-numbered Early (λ n a b. inl (omega arith)) (inl (omega arith)) (inr (omega arith)) chain d

-- a call past judging, over rows and over the form
module _ (most : Setting) (ws : List ℕ) (range : in_range most ≡ true) (o : opens most ws ≡ true) {A : Type 0} (k : Domain → Result A) (late : (e : Domain) → Numbered Late (k e)) where
  pub outcome-formed : over_form (then (judged_domain most.chain (form_in ws)) k) ≡ then (form_read most ws) k
  outcome-formed = go (judged_domain most.chain (form_in ws)) refl (judged_early most.chain (form_in ws))
    where
      go : (x : Result Domain) → judged_domain most.chain (form_in ws) ≡ x → Numbered Early x → over_form (then x k) ≡ then (form_read most ws) k
      go (refused r) q n = ap refused (early_one r n) ∙ sym (ap (λ (y : Result Domain). then y k) (read_opened most ws range o ∙ ap as_read q))
      go (good e) q n = late-same (k e) (late e) ∙ sym (ap (λ (y : Result Domain). then y k) (read_opened most ws range o ∙ ap as_read q))

-- the numbers of each call past judging
module _ (P : ℕ → Type 0) (sixteen : P 16) (eighteen : P 18) where
  pub tables-numbered : (room : Room) (e : Domain) → Numbered P (tables_for room e)
  tables-numbered room e =
      numbered-unless P (leb (needed e) room.words) (refusal 16 0 0) _ sixteen
      (numbered-unless P (leb (bytes_for (needed e)) room.bits) (refusal 18 0 0) (good e) eighteen tt)

  pub list-numbered : (room : Room) (answers count : ℕ) (e : Domain) → Numbered P (list_for room answers count e)
  list-numbered room answers count e =
      numbered-unless P (leb (needed e) room.words && leb count answers) (refusal 16 0 0) _ sixteen
      (numbered-unless P (leb (bytes_for (needed e)) room.bits) (refusal 18 0 0) (good e) eighteen tt)

pub tables-late : (room : Room) (e : Domain) → Numbered Late (tables_for room e)
tables-late = tables-numbered Late (omega arith, omega arith) (omega arith, omega arith)

pub list-late : (room : Room) (answers count : ℕ) (e : Domain) → Numbered Late (list_for room answers count e)
list-late = list-numbered Late (omega arith, omega arith) (omega arith, omega arith)

pub request-late : (t : Entries) (bytes : ℕ) (q : Request) (e : Domain) → Numbered Late (traced_request e t bytes q)
unfolding traced_request requested
request-late t bytes q e =
    numbered-then Late (requested q (room_of t) bytes e) _
    (numbered-unless Late (allowed e q.start q.arrival) (refusal 15 0 0) _ (omega arith, omega arith)
    (numbered-unless Late (leb (needed e) (room_of t).words && leb (length e) bytes) (refusal 16 0 0) _ (omega arith, omega arith)
    (numbered-unless Late (leb (bytes_for (needed e)) (room_of t).bits) (refusal 18 0 0) _ (omega arith, omega arith)
    (numbered-unless Late (not (eqb q.address 0)) (refusal 17 0 0) (good e) (omega arith, omega arith) tt))))
    (λ _. tt)

trace_mapped : (x : Result Traced) (answer : Result End) (before after : List ℕ) → TraceDone x answer before after → TraceDone (over_form x) (over_form answer) before after
trace_mapped (refused r) (refused s) before after o = record { answers = ap (λ (y : Refusal). refused (as_form y)) (refused-one s r o.answers); bytes = o.bytes }
trace_mapped (refused r) (good e) before after o = never r _ (sym o.answers)
trace_mapped (good t) (refused s) before after o = never s _ o.answers
trace_mapped (good t) (good e) before after o = record { answers = o.answers; bytes = o.bytes }

tables_mapped : (x : Result Domain) (answer : Result Counted) (before after : Entries) → TablesDone x answer before after → TablesDone (over_form x) (over_form answer) before after
tables_mapped (refused r) (refused s) before after o = record { answers = ap (λ (y : Refusal). refused (as_form y)) (refused-one s r o.answers); left = o.left }
tables_mapped (refused r) (good n) before after o = never r _ (sym o.answers)
tables_mapped (good d) (refused s) before after o = never s _ o.answers
tables_mapped (good d) (good n) before after o = record { answers = o.answers; left = o.left }

list_mapped : (x : Result Domain) (t : Entries) (requests : List ℕ) (answer : Result ℕ) (before after : List ℕ) → ListTraced x t requests answer before after
    → ListTraced (over_form x) t requests (over_form answer) before after
list_mapped (refused r) t requests (refused s) before after o = record { answers = ap (λ (y : Refusal). refused (as_form y)) (refused-one s r o.answers); words = o.words }
list_mapped (refused r) t requests (good n) before after o = never r _ (sym o.answers)
list_mapped (good d) t requests (refused s) before after o = never s _ o.answers
list_mapped (good d) t requests (good n) before after o = record { answers = o.answers; words = o.words }

-- the calls, opened: what rows that hold the form's domain promise
module _ (most : Setting) (ws : List ℕ) (e : Domain) (same : e ≡ form_in ws) (first low : List ℕ) (room : IndexRoom (form_in ws) first low) (range : in_range most ≡ true) (o : opens most ws ≡ true) where
  judged_as : judged_in most.chain (length first) (length low) e ≡ judged_domain most.chain (form_in ws)
  judged_as = ap (judged_in most.chain (length first) (length low)) same ∙ judged-read most (form_in ws) (opened-read most ws range o) most.chain first low room

  pub trace-formed : (t : Entries) (before after : List ℕ) (q : Request) (answer out : Result End)
      → TraceDone (request_in most.chain (length first) (length low) e t (length before) q) answer before after → out ≡ over_form answer → TraceDone (form_trace most ws t (length before) q) out before after
  unfolding request_in form_trace
  trace-formed t before after q answer out done z =
      let k : Domain → Result Traced = λ x. traced_request x t (length before) q in
      let w = subst (λ (x : Result Domain). TraceDone (then x k) answer before after) judged_as done in
      subst (λ (x : Result End). TraceDone (then (form_read most ws) k) x before after) (sym z)
      (subst (λ (x : Result Traced). TraceDone x (over_form answer) before after) (outcome-formed most ws range o k (request-late t (length before) q)) (trace_mapped _ answer before after w))

  pub tables-formed : (before after : Entries) (answer out : Result Counted)
      → OwnDone (then (judged_in most.chain (length first) (length low) e) (tables_for (room_of before))) answer before after → out ≡ over_form answer
      → TablesDone (form_tables most ws (room_of before)) out before after
  unfolding form_tables
  tables-formed before after answer out done z =
      let w = read_done most (form_in ws) (opened-read most ws range o) most.chain before after _ answer judged_as done in
      subst (λ (x : Result Counted). TablesDone (then (form_read most ws) (tables_for (room_of before))) x before after) (sym z)
      (subst (λ (x : Result Domain). TablesDone x (over_form answer) before after) (outcome-formed most ws range o (tables_for (room_of before)) (tables-late (room_of before))) (tables_mapped _ answer before after w))

  pub list-formed : (t : Entries) (requests before after : List ℕ) (answer out : Result ℕ)
      → ListTraced (list_in most.chain (length first) (length low) e (room_of t) (length before) (request_count requests)) t requests answer before after → out ≡ over_form answer
      → ListTraced (form_list most ws (room_of t) (length before) (request_count requests)) t requests out before after
  unfolding form_list list_in
  list-formed t requests before after answer out done z =
      let k : Domain → Result Domain = list_for (room_of t) (length before) (request_count requests) in
      let w = subst (λ (x : Result Domain). ListTraced (then x k) t requests answer before after) judged_as done in
      subst (λ (x : Result ℕ). ListTraced (then (form_read most ws) k) t requests x before after) (sym z)
      (subst (λ (x : Result Domain). ListTraced x t requests (over_form answer) before after) (outcome-formed most ws range o k (list-late (room_of t) (length before) (request_count requests))) (list_mapped _ t requests answer before after w))

-- the calls, refused: 22 or 1
module _ (most : Setting) (ws : List ℕ) (r s : Refusal) (no : form_read most ws ≡ refused r) (z : s ≡ r) where
  pub trace-refused : (t : Entries) (bytes : ℕ) (q : Request) (before : List ℕ) → TraceDone (form_trace most ws t bytes q) (refused s) before before
  unfolding form_trace
  trace-refused t bytes q before = rw (no, z) (record { answers = refl; bytes = refl })

  pub tables-refused : (room : Room) (before : Entries) → TablesDone (form_tables most ws room) (refused s) before before
  unfolding form_tables
  tables-refused room before = rw (no, z) (record { answers = refl; left = refl })

  pub list-refused : (t : Entries) (room : Room) (answers count : ℕ) (requests before : List ℕ) → ListTraced (form_list most ws room answers count) t requests (refused s) before before
  unfolding form_list
  list-refused t room answers count requests before = rw (no, z) (record { answers = refl; words = refl })

-- making a form
module _ (setting : Setting) (file before after : List ℕ) where
  pub made-refused : (r : Refusal) → domain_read setting file ≡ refused r → FormDone (form_call setting file (length before)) (refused r) before before
  unfolding form_call
  made-refused r e = rw e (record { answers = refl; words = refl })

  pub made-read : (x : Result Domain) (d : Domain) (answer : Result FormCounts) → domain_read setting file ≡ good d → x ≡ judged_domain setting.chain d → FormDone (then x (form_for (length before))) answer before after
      → FormDone (form_call setting file (length before)) answer before after
  unfolding form_call
  made-read x d answer e j o = rw e (rw j at o)

module _ (x : Result Domain) (d : Domain) (before after : List ℕ) where
  pub rows-refused : (r : Refusal) → x ≡ refused r → FormDone (then x (form_for (length before))) (refused r) before before
  rows-refused r e = rw e (record { answers = refl; words = refl })

  pub rows_short : (s : Refusal) → x ≡ good d → length before < length (form_of d) → s ≡ refusal 16 0 0 → FormDone (then x (form_for (length before))) (refused s) before before
  rows_short s e h z = rw (e, lt-leb (length (form_of d)) (length before) h, z) (record { answers = refl; words = refl })

  pub rows_made : (n w : ℕ) → x ≡ good d → length (form_of d) ≤ length before → n ≡ length d → w ≡ length (form_of d) → after ≡ form_of d ++ drop (length (form_of d)) before
      → FormDone (then x (form_for (length before))) (good (record { expander_count = n; word_count = w })) before after
  rows_made n w e h qn qw a = rw (e, le-leb (length (form_of d)) (length before) h, qn, qw) (record { answers = refl; words = a })

-- room for at most so many expanders
pub form-room : (ws rows first low : List ℕ) (n m : ℕ) → n ≡ length (form_in ws) → n ≤ m → row_words * m ≤ length rows → slots_before m ≤ length first → 128 * m ≤ length low → FormRoom ws n rows first low
form-room ws rows first low n m e h a b c = record { count = e; space = omega arith; index = record { slots = omega arith; phys = omega arith } }

-- room of a size that is enough for n expanders, as it is taken: filled with zeros
pub room-for : (ws : List ℕ) (n words slots phys : ℕ) → n ≡ length (form_in ws) → n ≤ 64 → RoomFor n words slots phys
    → FormRoom ws n (replicate words 0) (replicate slots 0) (replicate phys 0)
room-for ws n words slots phys e few room =
    form-room ws _ _ _ n n e (omega arith) (omega (arith, length-replicate {A = ℕ} words 0, room.rows)) (omega (arith, length-replicate {A = ℕ} slots 0, room.slots)) (omega (arith, length-replicate {A = ℕ} phys 0, room.phys))
