-- Bit 63 of the answers of the event call: the edited file is bytes again, and no more words change than the tables have.
use Prim.Native.Nat.{ℕ, suc, ◌+◌, ◌≤◌, ◌<◌}
use mathlib.Core.Path.{◌≡◌, refl, sym, ap, subst, ◌∙◌}
use mathlib.Core.Logic.{◌⊎◌, inl, inr, by_cases}
use mathlib.Core.Bool.{Bool, true, false, cond}
use mathlib.Core.List.{List, [], ◌∷◌, ◌++◌}
use native.Mathlib.Omega.{arith}
use native.Mathlib.Decide.{dec_lt}
use lib.ListN.{length, take, drop, set, length-take}
use lib.Seq.{drop_at, sets}
use lib.Dec.{eqb}
use Rattle.frames.specs.Bytes.{byte, bytes_of}
use Rattle.frames.specs.Refusals.{Result, good, then, refusal}
use Rattle.files.specs.declared.Setting.{Setting}
use Rattle.files.specs.Lists.{In}
use Rattle.files.specs.Domain.{Domain, phy_at, is_table}
use Rattle.files.specs.ReadDomain.{Bytes}
use Rattle.files.proofs.ListMembers.{keep-shorter, kept}
use Rattle.wiring.specs.phys.PhyCauses.{Place, places}
use Rattle.tables.specs.filling.Tables.{table_places, size, sizes}
use Rattle.tables.specs.filling.Entries.{Entries, Room, room_of}
use Rattle.tables.specs.filling.WordsChanged.{changed}
use Rattle.tables.specs.events.TouchedTables.{touched, table_at, renewed, moved, refilled}
use Rattle.tables.specs.events.ReplugCall.{pluggable}
use Rattle.tables.specs.JudgingCall.{judged, tables_for}
use Rattle.tables.proofs.filling.WordsChanged.{changed_split, changed-self}
use Rattle.tables.proofs.filling.TableLengths.{table-length}
use Rattle.tables.proofs.filling.TableStretches.{size-here}
use Rattle.offsets.specs.Offsets.{phy_offset}
use Rattle.events.specs.declared.Event.{Event}
use Rattle.events.specs.Events.{named}
use Rattle.events.specs.EventFile.{typed, frame_edited, file_edited}
use Rattle.events.specs.Calls.{attempted, event_call, entries_after}
use Rattle.exports.specs.Events.{moved_packed, EventPacked}
use Rattle.exports.specs.AnswerParts.{MovedBack}
use Rattle.exports.specs.RefusalBit.{ToldApart, BitTells}
use Rattle.exports.proofs.RefusalBit.{Tells, Yields, tells, tells-unless, tells-then, no_place, answer-tells}
use Rattle.exports.proofs.RefusalPlaces.{ReadBytes, judged-tells}
use Rattle.exports.proofs.DomainCounts.{sizes-few, few-tables}
use Rattle.exports.proofs.JudgingApart.{halves, room-tells}
use Rattle.exports.proofs.ByteLists.{bytes-set, bytes-sets, number-bytes}

-- the edited file
edited-bytes : (a at : ℕ) (file : List ℕ) → Bytes file → Bytes (frame_edited a at file)
unfolding frame_edited
edited-bytes a at file b = go (eqb a 0)
  where
    typed_in : ℕ → List ℕ
    typed_in type = set file (at + 12) (typed type (byte file (at + 12)))

    bytes-typed : (type : ℕ) → type ≤ 1 → Bytes (typed_in type)
    bytes-typed type h = let k = b (at + 12) in bytes-set file (at + 12) (typed type (byte file (at + 12))) (omega arith) b

    go : (none : Bool) → Bytes (cond none (typed_in 0) (sets (set (typed_in 1) (at + 32) 0) (at + 24) (bytes_of 8 a)))
    go true = bytes-typed 0 (omega arith)
    go false = bytes-sets (bytes_of 8 a) (set (typed_in 1) (at + 32) 0) (at + 24) (number-bytes 8 a) (bytes-set (typed_in 1) (at + 32) 0 (omega arith) (bytes-typed 1 (omega arith)))

-- no more words change than there are
changed-few : (a b : List ℕ) → changed a b ≤ length a
unfolding changed
changed-few [] b = omega arith
changed-few (v ∷ a) [] = omega arith
changed-few (v ∷ a) (w ∷ b) = go (eqb v w) (changed-few a b)
  where
    go : (same : Bool) → changed a b ≤ length a → cond same 0 1 + changed a b ≤ suc (length a)
    go true h = omega arith
    go false h = omega arith

-- of the first m of them no more than m
changed-first : (m : ℕ) (l x rest : List ℕ) → (length x ≡ m) ⊎ (length l < m) → changed l (x ++ rest) ≤ m + changed (drop m l) rest
changed-first m l x rest (inl e) =
    let s = changed_split m l (x ++ rest) ∙ ap (λ (y : List ℕ). changed (take m l) (take m (x ++ rest)) + changed (drop m l) y) (drop_at x rest m e) in
    let f = changed-few (take m l) (take m (x ++ rest)) in
    let t = length-take m l in
    omega arith
changed-first m l x rest (inr h) = let f = changed-few l (x ++ rest) in omega arith

-- of tables written afresh no more than they have
renewed-few : (d : Domain) (test : Place → Bool) (new : Place → List ℕ) (qs : List Place) → ((q : Place) → In q qs → length (new q) ≡ size d q) → (l : List ℕ)
    → changed l (renewed test (size d) new qs l) ≤ sizes d qs
unfolding renewed sizes
renewed-few d test new [] h l = let e = changed-self l in omega arith
renewed-few d test new (q ∷ qs) h l = go (test q) (renewed-few d test new qs (λ x j. h x (inr j)) (drop (size d q) l))
  where
    m : ℕ
    m = size d q

    rest : List ℕ
    rest = renewed test (size d) new qs (drop m l)

    go : (b : Bool) → changed (drop m l) rest ≤ sizes d qs → changed l (cond b (new q) (take m l) ++ rest) ≤ m + sizes d qs
    go true r = let f = changed-first m l (new q) rest (inl (h q (inl refl))) in omega arith
    go false r =
        let t = length-take m l in
        let f = changed-first m l (take m l) rest (by_cases (dec_lt (length l) m) inr (λ k. inl (omega arith))) in
        omega arith

module _ (setting : Setting) (d : Domain) (b : ReadBytes setting d) (e : ℕ) (before : Entries) where
  moved_yields : Yields moved_packed MovedBack (moved d e before (refilled d e before))
  unfolding table_places
  moved_yields =
      let k = keep-shorter (touched d e) (table_places d) in
      let t = few-tables setting d b in
      let s = sizes-few d b.fits (table_places d) in
      let w = renewed-few d (touched d e) (table_at d) (table_places d) whole before.words in
      halves _ _ (omega arith) (omega arith)
    where
      whole : (q : Place) → In q (table_places d) → length (table_at d q) ≡ size d q
      whole q j =
          let t = (kept (λ v. is_table (phy_at d v.expander v.phy)) (places d) q j).1 in
          table-length d q.expander q.phy ∙ sym (size-here d q.expander q.phy t q refl)

-- the event call: what it leaves of the entries is what it promises to leave
pub event-apart : (setting : Setting) (file : List ℕ) (v : Event) (before after : Entries) → Bytes file
    → after ≡ entries_after (event_call setting file v (room_of before)) v before
    → ToldApart moved_packed MovedBack (then (event_call setting file v (room_of before)) (λ d. good (moved d v.expander.0 before after)))
unfolding event_call
event-apart setting file v before after b left =
    tells moved_packed MovedBack _ (tells-then (ReadBytes setting) (Yields moved_packed MovedBack) outcome _ done (λ d e r.
    subst (λ x. Yields moved_packed MovedBack (moved d v.expander.0 before x)) (sym (left ∙ ap (λ x. entries_after x v before) e))
    (moved_yields setting d r v.expander.0 before)))
  where
    room : Room
    room = room_of before

    outcome : Result Domain
    outcome = event_call setting file v room

    done : Tells (ReadBytes setting) outcome
    done =
        tells-then (ReadBytes setting) (ReadBytes setting) (judged setting file) (attempted setting file v room) (judged-tells setting file b) (λ d _ r.
        tells-unless (ReadBytes setting) (pluggable (named d v)) (refusal 20 0 0) _ (no_place 20 (omega arith)) (λ _.
        tells-then (ReadBytes setting) (ReadBytes setting) (tables_for room d) _ (room-tells setting room d r) (λ _ _ _.
        judged-tells setting (file_edited file v) (edited-bytes v.address (phy_offset file v.expander.0 v.phy.0) file b))))

-- and so of what it answers, by all that it promises
pub event-tells : (setting : Setting) (file file' : List ℕ) (v : Event) (before after : Entries) (answer : ℕ) → Bytes file
    → EventPacked (event_call setting file v (room_of before)) v answer file file' before after
    → BitTells MovedBack (then (event_call setting file v (room_of before)) (λ d. good (moved d v.expander.0 before after))) answer
event-tells setting file file' v before after answer b o =
    answer-tells moved_packed MovedBack (then (event_call setting file v (room_of before)) (λ d. good (moved d v.expander.0 before after))) answer
    (event-apart setting file v before after b o.left) o.answers
