-- What the event call's functions need: what they answer after the call over rows, that the frame they edit lies within the file, and that a file which
-- states more than 64 expanders is refused as its first two bytes are.
use mathlib.Core.Path.{◌≡◌, refl, sym, ap, subst, ◌∙◌}
use mathlib.Core.List.{List, ◌++◌}
use Prim.Native.Nat.{ℕ, ◌+◌, ◌^◌, ◌≤◌, ◌<◌}
use native.Mathlib.Omega.{arith}
use lib.ListN.{length, take, drop, take-append-drop}
use Rattle.frames.specs.Bytes.{byte}
use Rattle.frames.specs.Refusals.{Result, refused, good, then}
use Rattle.frames.specs.declared.Refusal.{Refusal}
use Rattle.frames.specs.Sizes.{short_size}
use Rattle.frames.specs.declared.Response.TheVariants.{Discover as DiscoverResponse}
use Rattle.files.specs.declared.Setting.{Setting}
use Rattle.files.specs.Domain.{Domain}
use Rattle.files.specs.File.{domain_read}
use Rattle.wiring.specs.index.AddressIndex.{IndexRoom}
use Rattle.files.proofs.CallResults.{never}
use Rattle.files.proofs.ReadDomain.{read-good, stated-expanders}
use Rattle.files.proofs.PastLimits.{header_cut}
use Rattle.tables.specs.filling.Entries.{Entries, room_of}
use Rattle.tables.specs.declared.Moved.{Moved}
use Rattle.tables.specs.events.TouchedTables.{moved_by}
use Rattle.tables.specs.events.ReplugCall.{replug_call, own_touched, ReplugDone}
use Rattle.offsets.specs.Offsets.{phy_offset}
use Rattle.events.specs.declared.Event.{Event}
use Rattle.events.specs.EventFile.{frame_edited}
use Rattle.events.specs.Calls.{event_call, EventDone}
use Rattle.events.proofs.EventsByOwnLists.{call-refused, call-is, rows-done, file-counted, file-refused, frame-within}

-- a file that was read as domain d, with room for who has which address, and what the call over rows did
module _ (setting : Setting) (file : List ℕ) (d : Domain) (first low : List ℕ) (v : Event) (got : Result Moved) (before after : Entries)
    (h : domain_read setting file ≡ good d) (room : IndexRoom d first low) (fits : v.address < 2 ^ 64)
    (o : ReplugDone (replug_call setting.chain (length first) (length low) (room_of before) v.expander.0 v.phy.0 v.address d) v.expander.0 got before after) where
  abbrev outcome : Result Domain
  outcome = replug_call setting.chain (length first) (length low) (room_of before) v.expander.0 v.phy.0 v.address d

  -- it refused
  pub applied-refused : (r : Refusal) → got ≡ refused r → EventDone (event_call setting file v (room_of before)) v (refused r) file file before after
  applied-refused r q =
      let w = subst (λ x. ReplugDone outcome v.expander.0 x before after) q o in
      rows-done setting file file d (length first) (length low) v (refused r) (refused r) before after h room.slots room.phys fits w refl (sym (file-refused outcome v.expander.0 before after v file r w))

  -- it counted
  module _ (m : Moved) (q : got ≡ good m) where
    counted : ReplugDone outcome v.expander.0 (good m) before after
    counted = subst (λ x. ReplugDone outcome v.expander.0 x before after) q o

    pub applied-within : phy_offset file v.expander.0 v.phy.0 + short_size DiscoverResponse ≤ length file
    applied-within = go outcome refl counted.answers
      where
        go : (x : Result Domain) → outcome ≡ x → good m ≡ then x (λ y. good (moved_by y (own_touched y v.expander.0) before after))
            → phy_offset file v.expander.0 v.phy.0 + short_size DiscoverResponse ≤ length file
        go (refused r) k a = never r m (sym a)
        go (good d₂) k a = frame-within setting file v (room_of before) d₂ fits (call-is setting file d h (length first) (length low) room.slots room.phys v fits (room_of before) ∙ k)

    pub applied-counted : (at : ℕ) (file' : List ℕ) → at ≡ phy_offset file v.expander.0 v.phy.0 → file' ≡ frame_edited v.address at file
        → EventDone (event_call setting file v (room_of before)) v (good m) file file' before after
    applied-counted at file' place k =
        rows-done setting file file' d (length first) (length low) v (good m) (good m) before after h room.slots room.phys fits counted refl
        (k ∙ ap (λ (n : ℕ). frame_edited v.address n file) place ∙ sym (file-counted outcome v.expander.0 before after v file m counted))

-- a file that states more than 64 expanders is refused as its first two bytes are, and stays as it is
pub header_done : (setting : Setting) (file part : List ℕ) (v : Event) (answer : Result Moved) (before after : Entries) → 2 < length file → 64 < byte file 1
    → EventDone (event_call setting (take 2 file) v (room_of before)) v answer (take 2 file) part before after
    → EventDone (event_call setting file v (room_of before)) v answer file (part ++ drop 2 file) before after
header_done setting file part v answer before after l k o = go (domain_read setting file) refl
  where
    go : (x : Result Domain) → domain_read setting file ≡ x → EventDone (event_call setting file v (room_of before)) v answer file (part ++ drop 2 file) before after
    go (good d) q = let g = read-good setting file d q in absurd (omega (arith, stated-expanders setting file d q, g.few, g.range.expanders.1))
    go (refused r) q =
        let w = subst (λ y. EventDone y v answer (take 2 file) part before after) (call-refused setting (take 2 file) v (room_of before) r (header_cut setting file l k ∙ q)) o in
        subst (λ y. EventDone y v answer file (part ++ drop 2 file) before after) (sym (call-refused setting file v (room_of before) r q))
        (record { edits = ap (λ (u : List ℕ). u ++ drop 2 file) w.edits ∙ take-append-drop 2 file; left = w.left; answers = w.answers })
