-- What a drive plugged or pulled over rows promises, by own lists, is what the event call promises: own lists one after the other are level
-- lists on accepted domains, and after an event only the causes that are tested again can hold.
use mathlib.Core.Path.{◌≡◌, refl, sym, ap, ap₂, subst, subst₂, fun_ext, ◌∙◌}
use mathlib.Core.List.{List, flat_map}
use mathlib.Core.Bool.{Bool, true, false}
use Prim.Native.Nat.{ℕ, ◌+◌, ◌*◌, ◌^◌, ◌≤◌, ◌<◌}
use native.Mathlib.Omega.{arith}
use lib.ListN.{length, replicate, length-replicate}
use lib.Dec.{T}
use Rattle.frames.specs.Refusals.{Result, refused, good, unless, then, refusal}
use Rattle.frames.specs.declared.Refusal.{Refusal}
use Rattle.frames.specs.Sizes.{short_size}
use Rattle.frames.specs.declared.Response.TheVariants.{Discover as DiscoverResponse}
use Rattle.files.specs.declared.Setting.{Setting}
use Rattle.files.specs.Lists.{is_in}
use Rattle.files.specs.Domain.{Domain, expander_at}
use Rattle.files.specs.File.{domain_read}
use Rattle.wiring.specs.index.AddressIndex.{slots_before}
use Rattle.wiring.specs.WiringCauses.{Linked}
use Rattle.files.proofs.ListMembers.{was_true}
use Rattle.files.proofs.CallResults.{never, then-good}
use Rattle.wiring.proofs.phys.WiredPhys.{Wired}
use Rattle.tables.specs.filling.Tables.{table}
use Rattle.tables.specs.filling.Entries.{Entries, Room, room_of}
use Rattle.tables.specs.lists.OwnLists.{own_words, own_words_of_levels}
use Rattle.tables.specs.JudgingCall.{judged_domain, judged, tables_for}
use Rattle.tables.specs.lists.PreparedLists.{own_words_of_order, filled_to, judged_in}
use Rattle.tables.specs.declared.Moved.{Moved}
use Rattle.tables.specs.events.TouchedTables.{touched, table_at, refilled_by, refilled, moved_by, moved}
use Rattle.tables.specs.events.ReplugCall.{pluggable, retested, replug_call, own_touched, own_table_at, own_refilled, refilled_after, ReplugDone}
use Rattle.tables.proofs.AcceptedDomains.{judged-routable, judged-file, judged_wires}
use Rattle.tables.proofs.lists.LevelListLaw.{law}
use Rattle.tables.proofs.levels.LevelOrders.{order-levels}
use Rattle.tables.proofs.lists.LevelListsByOwn.{judged_own}
use Rattle.events.specs.declared.Event.{Event}
use Rattle.events.specs.Events.{named, edited}
use Rattle.events.specs.EventFile.{file_edited}
use Rattle.offsets.specs.Offsets.{phy_offset}
use Rattle.events.specs.Calls.{attempted, event_call, file_after, entries_after, EventDone}
use Rattle.events.proofs.EditedFile.{edited-read}
use Rattle.events.proofs.EventLists.{accepted-is}
use Rattle.events.proofs.CausesAfterEvent.{retested-judged}

-- a file that is refused by reading
pub call-refused : (setting : Setting) (file : List ℕ) (v : Event) (room : Room) (r : Refusal) → domain_read setting file ≡ refused r → event_call setting file v room ≡ refused r
unfolding event_call
call-refused setting file v room r h = ap (λ x. then (then x (judged_domain setting.chain)) (attempted setting file v room)) h

-- a file that is read as domain d, with room for so many slots and phys
module _ (setting : Setting) (file : List ℕ) (d : Domain) (h : domain_read setting file ≡ good d) (first low : ℕ) (slots : slots_before (length d) ≤ first) (phys : 128 * length d ≤ low) where
  own_judged : judged_in setting.chain first low d ≡ judged_domain setting.chain d
  own_judged =
      let m : length (replicate {A = ℕ} first 0) ≡ first = length-replicate first 0 in
      let n : length (replicate {A = ℕ} low 0) ≡ low = length-replicate low 0 in
      subst₂ (λ x y. judged_in setting.chain x y d ≡ judged_domain setting.chain d) m n
      (judged_own setting file (replicate first 0) (replicate low 0) d h (record { slots = omega arith; phys = omega arith }))

  module _ (v : Event) (fits : v.address < 2 ^ 64) where
    -- judging the edited file is testing again what can hold of the edited domain
    edited-judged : judged setting file ≡ good d → T (pluggable (named d v)) → judged setting (file_edited file v) ≡ retested v.expander.0 v.address (edited d v)
    edited-judged j t =
        let z : 2 ^ 64 ≡ 256 ^ 8 = refl in
        let less : v.address < 256 ^ 8 = subst (λ y. v.address < y) z fits in
        ap (λ x. then x (judged_domain setting.chain)) (edited-read setting file d h v t less).1 ∙ retested-judged setting file d v j t less

    -- the event call is the call over rows
    pub call-is : (room : Room) → event_call setting file v room ≡ replug_call setting.chain first low room v.expander.0 v.phy.0 v.address d
    unfolding event_call replug_call
    call-is room =
        ap (λ x. then (then x (judged_domain setting.chain)) (attempted setting file v room)) h
        ∙ go (judged_domain setting.chain d) refl
        ∙ ap (λ x. then (then x (λ _. unless (pluggable (named d v)) (refusal 20 0 0) (tables_for room d))) (λ _. retested v.expander.0 v.address (edited d v))) (sym own_judged)
      where
        again : (x : Result Domain) → judged setting (file_edited file v) ≡ retested v.expander.0 v.address (edited d v)
            → then x (λ _. judged setting (file_edited file v)) ≡ then x (λ _. retested v.expander.0 v.address (edited d v))
        again x k = ap (λ y. then x (λ _. y)) k

        free : judged setting file ≡ good d → (b : Bool) → pluggable (named d v) ≡ b
            → unless b (refusal 20 0 0) (then (tables_for room d) (λ _. judged setting (file_edited file v)))
            ≡ then (unless b (refusal 20 0 0) (tables_for room d)) (λ _. retested v.expander.0 v.address (edited d v))
        free j true q = again (tables_for room d) (edited-judged j (was_true (pluggable (named d v)) q))
        free j false q = refl

        go : (x : Result Domain) → judged_domain setting.chain d ≡ x
            → then x (attempted setting file v room)
            ≡ then (then x (λ _. unless (pluggable (named d v)) (refusal 20 0 0) (tables_for room d))) (λ _. retested v.expander.0 v.address (edited d v))
        go (refused r) q = refl
        go (good y) q =
            let z = (judged-routable setting.chain d y q).0 in
            ap (attempted setting file v room) (sym z) ∙ free ((judged-file setting file d).1 (h, q ∙ ap good (sym z))) (pluggable (named d v)) refl

-- an accepted domain
module _ (d : Domain) (w : Wired d) (r : Linked d) where
  touched_own : (e : ℕ) → own_touched d e ≡ touched d e
  unfolding own_touched touched
  touched_own e = fun_ext (λ q. ap (is_in e) (order-levels d w r q.expander q.phy))

  table_own : own_table_at d ≡ table_at d
  unfolding table own_words_of_order own_words_of_levels
  table_own = fun_ext (λ q. ap (filled_to (expander_at d q.expander).route_indexes) (sym (law d w r q.expander q.phy ∙ ap (flat_map (own_words d)) (sym (order-levels d w r q.expander q.phy)))))

-- tables written afresh, and the counts, by own lists
pub record SameOwn (d : Domain) (e : ℕ) : Type 0 where
  pub entries : (before : Entries) → own_refilled d e before ≡ refilled d e before
  pub counts : (before after : Entries) → moved_by d (own_touched d e) before after ≡ moved d e before after

pub refilled_own : (setting : Setting) (file : List ℕ) (v : Event) (room : Room) (d₂ : Domain) (e : ℕ) → v.address < 2 ^ 64 → event_call setting file v room ≡ good d₂ → SameOwn d₂ e
unfolding event_call
refilled_own setting file v room d₂ e fits c =
    let z : 2 ^ 64 ≡ 256 ^ 8 = refl in
    let x = then-good (judged setting file) (attempted setting file v room) d₂ c in
    let k = accepted-is setting file v room x.0 d₂ (subst (λ y. v.address < y) z fits) x.1 c in
    let w = judged_wires setting (file_edited file v) (edited x.0 v) k.new in
    subst (λ y. SameOwn y e) (sym k.is) (by (edited x.0 v) w.0 w.1.linked)
  where
    by : (y : Domain) → Wired y → Linked y → SameOwn y e
    by y w r = record {
      entries = λ before. ap₂ (λ test new. refilled_by y test new before) (touched_own y w r e) (table_own y w r);
      counts = λ before after. ap (λ test. moved_by y test before after) (touched_own y w r e);
    }

-- so what the call over rows promises is what the event call promises of entries and answer
pub event-done : (setting : Setting) (file file' : List ℕ) (v : Event) (outcome : Result Domain) (got : Result Moved) (answer : Result Moved) (before after : Entries) → v.address < 2 ^ 64
    → event_call setting file v (room_of before) ≡ outcome → ReplugDone outcome v.expander.0 got before after → answer ≡ got
    → file' ≡ file_after outcome v file → EventDone (event_call setting file v (room_of before)) v answer file file' before after
event-done setting file file' v outcome got answer before after fits c o same edits =
    subst (λ x. EventDone x v answer file file' before after) (sym c) (record { edits = edits; left = o.left ∙ left outcome c; answers = same ∙ o.answers ∙ counts outcome c })
  where
    e : ℕ
    e = v.expander.0

    left : (x : Result Domain) → event_call setting file v (room_of before) ≡ x → refilled_after x e before ≡ entries_after x v before
    left (refused r) k = refl
    left (good d₂) k = (refilled_own setting file v (room_of before) d₂ e fits k).entries before

    counts : (x : Result Domain) → event_call setting file v (room_of before) ≡ x → then x (λ y. good (moved_by y (own_touched y e) before after)) ≡ then x (λ y. good (moved y e before after))
    counts (refused r) k = refl
    counts (good d₂) k = ap good ((refilled_own setting file v (room_of before) d₂ e fits k).counts before after)

-- a file that is read, by the call over rows on its domain
pub rows-done : (setting : Setting) (file file' : List ℕ) (d : Domain) (first low : ℕ) (v : Event) (got : Result Moved) (answer : Result Moved) (before after : Entries)
    → domain_read setting file ≡ good d → slots_before (length d) ≤ first → 128 * length d ≤ low → v.address < 2 ^ 64
    → ReplugDone (replug_call setting.chain first low (room_of before) v.expander.0 v.phy.0 v.address d) v.expander.0 got before after → answer ≡ got
    → file' ≡ file_after (replug_call setting.chain first low (room_of before) v.expander.0 v.phy.0 v.address d) v file
    → EventDone (event_call setting file v (room_of before)) v answer file file' before after
rows-done setting file file' d first low v got answer before after h slots phys fits =
    event-done setting file file' v (replug_call setting.chain first low (room_of before) v.expander.0 v.phy.0 v.address d) got answer before after fits
    (call-is setting file d h first low slots phys v fits (room_of before))

-- a file that is refused by reading
pub refused-done : (setting : Setting) (file : List ℕ) (v : Event) (before : Entries) (r : Refusal) → domain_read setting file ≡ refused r
    → EventDone (event_call setting file v (room_of before)) v (refused r) file file before before
refused-done setting file v before r h =
    subst (λ x. EventDone x v (refused r) file file before before) (sym (call-refused setting file v (room_of before) r h)) (record { edits = refl; left = refl; answers = refl })

-- the file is edited exactly where the call over rows answers counts
module _ (outcome : Result Domain) (e : ℕ) (before after : Entries) (v : Event) (file : List ℕ) where
  pub file-counted : (m : Moved) → ReplugDone outcome e (good m) before after → file_after outcome v file ≡ file_edited file v
  file-counted m o = go outcome o.answers
    where
      go : (x : Result Domain) → good m ≡ then x (λ d. good (moved_by d (own_touched d e) before after)) → file_after x v file ≡ file_edited file v
      go (refused r) q = never r m (sym q)
      go (good d) q = refl

  pub file-refused : (r : Refusal) → ReplugDone outcome e (refused r) before after → file_after outcome v file ≡ file
  file-refused r o = go outcome o.answers
    where
      go : (x : Result Domain) → (refused r) ≡ then x (λ d. good (moved_by d (own_touched d e) before after)) → file_after x v file ≡ file
      go (refused s) q = refl
      go (good d) q = never r (moved_by d (own_touched d e) before after) q

-- where the event is accepted, the frame that it edits lies within the file
pub frame-within : (setting : Setting) (file : List ℕ) (v : Event) (room : Room) (d₂ : Domain) → v.address < 2 ^ 64 → event_call setting file v room ≡ good d₂
    → phy_offset file v.expander.0 v.phy.0 + short_size DiscoverResponse ≤ length file
unfolding event_call
frame-within setting file v room d₂ fits c =
    let z : 2 ^ 64 ≡ 256 ^ 8 = refl in
    let less : v.address < 256 ^ 8 = subst (λ y. v.address < y) z fits in
    let x = then-good (judged setting file) (attempted setting file v room) d₂ c in
    let k = accepted-is setting file v room x.0 d₂ less x.1 c in
    (edited-read setting file x.0 ((judged-file setting file x.0).0 x.1).0 v k.free less).0
