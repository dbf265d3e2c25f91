-- The event call: the order of its refusals, and what it leaves of the lent file, words and bits.
use Rattle.std.specs.Prelude.{ℕ, ◌<◌, ◌^◌, ◌≡◌, List, [], ◌∷◌}
use Rattle.frames.specs.Refusals.{Result, refused, good, unless, then, refusal}
use Rattle.files.specs.declared.Setting.{Setting}
use Rattle.files.specs.Domain.{Domain}
use Rattle.tables.specs.filling.Entries.{Entries, Room, room_of}
use Rattle.tables.specs.JudgingCall.{judged, tables_for}
use Rattle.tables.specs.declared.Moved.{Moved}
use Rattle.tables.specs.events.TouchedTables.{moved, refilled}
use Rattle.tables.specs.events.ReplugCall.{pluggable}
use Rattle.events.specs.declared.Event.{Event}
use Rattle.events.specs.Events.{named}
use Rattle.events.specs.EventFile.{file_edited}

-- 20, then 16 and 18, then the edited file is judged, on an accepted domain
abbrev pub attempted : Setting → List ℕ → Event → Room → Domain → Result Domain
attempted setting file v room d =
    unless (pluggable (named d v)) (refusal 20 0 0)
    (then (tables_for room d) (λ _.
    judged setting (file_edited file v)))

-- the event call on a file under a setting, with so much room: 22, 1 to 12, 23 and 14 of the file as lent, then those; it yields the edited domain
unfoldable pub event_call : Setting → List ℕ → Event → Room → Result Domain
event_call setting file v room = then (judged setting file) (attempted setting file v room)

-- the file after the call: edited, or as it was where refused
abbrev pub file_after : Result Domain → Event → List ℕ → List ℕ
file_after (refused r) v file = file
file_after (good d) v file = file_edited file v

-- the entries after the call: the touched tables afresh, words and bits, and all others as lent; all as they were where refused
abbrev pub entries_after : Result Domain → Event → Entries → Entries
entries_after (refused r) v before = before
entries_after (good d) v before = refilled d v.expander.0 before

-- all that an event call with this outcome promises: the file, the entries, and the answer
pub record EventDone (outcome : Result Domain) (v : Event) (answer : Result Moved) (file file' : List ℕ) (before after : Entries) : Type 0 where
  pub edits : file' ≡ file_after outcome v file
  pub left : after ≡ entries_after outcome v before
  pub answers : answer ≡ then outcome (λ d. good (moved d v.expander.0 before after))

-- what is lent to an event: a file and entries
pub record Lab : Type 0 where
  pub file : List ℕ
  pub entries : Entries

-- events one after the other, each with its answer, by the call's own promise
pub data Happened (setting : Setting) : List Event → Lab → Lab → Type 0 where
  none : (l : Lab) → Happened setting [] l l
  next : (v : Event) (vs : List Event) (l m n : Lab) (answer : Result Moved) → v.address < 2 ^ 64
      → EventDone (event_call setting l.file v (room_of l.entries)) v answer l.file m.file l.entries m.entries
      → Happened setting vs m n → Happened setting (v ∷ vs) l n

-- the first file with the accepted events applied
unfoldable pub applied : Setting → Room → List ℕ → List Event → List ℕ
applied setting room file [] = file
applied setting room file (v ∷ vs) = applied setting room (file_after (event_call setting file v room) v file) vs
