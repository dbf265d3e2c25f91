-- Paper 9: for every list of events from a configured domain, by induction on the list and over the promise of the call.
use mathlib.Core.Path.{◌≡◌, refl, sym, ap, ap₂, subst, ◌∙◌}
use mathlib.Core.List.{List, [], ◌∷◌}
use Prim.Native.Nat.{ℕ, ◌≤◌, ◌<◌, ◌^◌}
use native.Mathlib.Omega.{arith}
use lib.ListN.{length, drop, length-append, length-drop}
use lib.Dec.{T}
use Rattle.frames.specs.Bits.{bytes_for}
use Rattle.frames.specs.Refusals.{Result, refused, good, refusal}
use Rattle.frames.proofs.PackedRows.{Bytes}
use Rattle.frames.proofs.DisableBits.{length_marked}
use Rattle.files.specs.declared.Setting.{Setting}
use Rattle.files.specs.Domain.{Domain}
use Rattle.files.proofs.CallResults.{good-one, unless-good, then-good}
use Rattle.tables.specs.filling.Tables.{tables}
use Rattle.tables.specs.filling.Entries.{Entries, Room, room_of, Enough, put_before}
use Rattle.tables.specs.declared.Counted.{Counted}
use Rattle.tables.specs.declared.Moved.{Moved}
use Rattle.tables.specs.JudgingCall.{judged, tables_for, table_call, tables_after, TablesDone}
use Rattle.tables.specs.events.TouchedTables.{refilled}
use Rattle.tables.specs.events.ReplugCall.{pluggable}
use Rattle.tables.proofs.AcceptedDomains.{judged-file, judged_wires, table_call_iff}
use Rattle.tables.proofs.filling.TableLengths.{tables-length}
use Rattle.tables.proofs.TableRefusals.{counts_iff}
use Rattle.events.specs.declared.Event.{Event}
use Rattle.events.specs.Events.{named, edited}
use Rattle.events.specs.EventFile.{file_edited}
use Rattle.events.specs.Calls.{attempted, event_call, file_after, entries_after, EventDone, Lab, Happened, none, next, applied}
use Rattle.events.specs.EventLists.{Configured, Afresh}
use Rattle.tables.proofs.events.LevelsAfterEvent.{needed-same}
use Rattle.events.proofs.EditedFile.{edited-read}
use Rattle.events.proofs.TouchedTablesRefilled.{refilled-is}

-- an accepted event
pub record Accepted (setting : Setting) (file : List ℕ) (v : Event) (d d₂ : Domain) : Type 0 where
  pub free : T (pluggable (named d v))
  pub is : d₂ ≡ edited d v
  pub old : judged setting file ≡ good d
  pub new : judged setting (file_edited file v) ≡ good (edited d v)

pub accepted-is : (setting : Setting) (file : List ℕ) (v : Event) (room : Room) (d d₂ : Domain) → v.address < 256 ^ 8 → judged setting file ≡ good d → event_call setting file v room ≡ good d₂
    → Accepted setting file v d d₂
unfolding event_call
accepted-is setting file v room d d₂ fits j e =
    let x = then-good (judged setting file) (attempted setting file v room) d₂ e in
    let z : x.0 ≡ d = good-one x.0 d (sym x.1 ∙ j) in
    let c : attempted setting file v room d ≡ good d₂ = subst (λ y. attempted setting file v room y ≡ good d₂) z x.2 in
    let f = unless-good (pluggable (named d v)) (refusal 20 0 0) _ d₂ c in
    let g = then-good (tables_for room d) _ d₂ f.1 in
    let r = (edited-read setting file d ((judged-file setting file d).0 j).0 v f.0 fits).1 in
    let s : d₂ ≡ edited d v = good-one d₂ (edited d v) (sym ((judged-file setting (file_edited file v) d₂).0 g.2).0 ∙ r) in
    record { free = f.0; is = s; old = j; new = g.2 ∙ ap good s }

-- where the table call answers counts, its file and what it left are a configured domain
pub tables_configure : (setting : Setting) (file : List ℕ) (t w : ℕ) (before after : Entries) → TablesDone (table_call setting file (room_of before)) (good (record { table_count = t; word_count = w })) before after
    → Configured setting before (record { file = file; entries = after })
tables_configure setting file t w before after o =
    let c = (counts_iff (table_call setting file (room_of before)) (good (record { table_count = t; word_count = w })) before after o).0 (t, w, refl) in
    let j = (table_call_iff setting file c.0 (room_of before)).0 c.1 in
    record { domain = c.0; accepted = j.0; enough = j.1; given = o.left ∙ ap (λ x. tables_after x before) c.1 }

module _ (setting : Setting) (before : Entries) (b : Bytes before.bits) where
  -- the entries that were lent at first, and those left of them by the table call, are as many
  room-same : (l : List ℕ) → length l ≤ length before.words → room_of (put_before l before) ≡ room_of before
  room-same l h =
      let x = length-append l (drop (length l) before.words) in
      let y = length-drop (length l) before.words in
      ap₂ (λ m n. record { words = m; bits = n }) (omega arith) (length_marked l before.bits)

  -- one event
  one : (v : Event) (l m : Lab) (answer : Result Moved) → v.address < 2 ^ 64 → Configured setting before l
      → EventDone (event_call setting l.file v (room_of l.entries)) v answer l.file m.file l.entries m.entries
      → (m.file ≡ file_after (event_call setting l.file v (room_of before)) v l.file) × Configured setting before m
  one v l m answer fits c o =
      let n = tables-length c.domain in
      let r : room_of l.entries ≡ room_of before = ap room_of c.given ∙ room-same (tables c.domain) (omega (arith, c.enough.words)) in
      let p = subst (λ y. EventDone (event_call setting l.file v y) v answer l.file m.file l.entries m.entries) r o in
      (p.edits, go (event_call setting l.file v (room_of before)) refl p.edits p.left)
    where
      go : (x : Result Domain) → event_call setting l.file v (room_of before) ≡ x → m.file ≡ file_after x v l.file → m.entries ≡ entries_after x v l.entries → Configured setting before m
      go (refused r) e f g = record { domain = c.domain; accepted = ap (judged setting) f ∙ c.accepted; enough = c.enough; given = g ∙ c.given }
      go (good d₂) e f g =
          let d : Domain = c.domain in
          let z : 2 ^ 64 ≡ 256 ^ 8 = refl in
          let k = accepted-is setting l.file v (room_of before) d d₂ (subst (λ y. v.address < y) z fits) c.accepted e in
          let w = judged_wires setting l.file d k.old in
          let w' = judged_wires setting (file_edited l.file v) (edited d v) k.new in
          let n = tables-length d in
          let same = needed-same d v.expander.0 v.phy.0 v.address k.free in
          record {
            domain = edited d v;
            accepted = ap (judged setting) f ∙ k.new;
            enough = subst (λ y. Enough y (room_of before)) (sym same) c.enough;
            given = g ∙ ap₂ (λ y s. refilled y v.expander.0 s) k.is c.given
                ∙ refilled-is d v.expander.0 v.phy.0 v.address k.free w.0 w.1.linked w'.0 w'.1.linked before (subst (λ y. bytes_for y ≤ length before.bits) (sym n) c.enough.bits) b;
          }

  -- configuring afresh gives these entries
  same_tables : (n : Lab) → Configured setting before n → (answer : Result Counted) (after : Entries) → TablesDone (table_call setting n.file (room_of before)) answer before after → n.entries ≡ after
  same_tables n c answer after t =
      c.given ∙ sym (t.left ∙ ap (λ x. tables_after x before) ((table_call_iff setting n.file c.domain (room_of before)).1 (c.accepted, c.enough)))

  -- a list of events
  pub paper_9 : (vs : List Event) (l n : Lab) → Configured setting before l → Happened setting vs l n → Afresh setting before vs l n
  unfolding applied
  paper_9 [] l _ c (none _) = record { file = refl; configured = c; afresh = same_tables l c }
  paper_9 (v ∷ vs) l n c (next _ _ _ m _ answer fits o h) =
      let x = one v l m answer fits c o in
      let r = paper_9 vs m n x.1 h in
      record { file = r.file ∙ ap (λ y. applied setting (room_of before) y vs) x.0; configured = r.configured; afresh = r.afresh }
