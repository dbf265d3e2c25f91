-- What the event call answers, packed into one number.
use Rattle.std.specs.Prelude.{ℕ, ◌+◌, ◌*◌, ◌^◌, ◌≡◌, List}
use Rattle.frames.specs.Refusals.{Result, good, then}
use Rattle.files.specs.Domain.{Domain}
use Rattle.tables.specs.filling.Entries.{Entries}
use Rattle.tables.specs.events.TouchedTables.{moved}
use Rattle.tables.specs.declared.Moved.{Moved}
use Rattle.events.specs.declared.Event.{Event}
use Rattle.events.specs.Calls.{file_after, entries_after}
use Rattle.exports.specs.Packing.{packed}

-- an event as it is told
abbrev pub event_told : ℕ → ℕ → ℕ → Event
event_told expander phy address = record { expander = record { 0 = expander }; phy = record { 0 = phy }; address = address }

-- how many tables are touched, and how many words changed
abbrev pub moved_packed : Moved → ℕ
moved_packed m = m.table_count * 2 ^ 32 + m.word_count

-- all that an event call with this outcome promises: the number, and the file and the entries after
pub record EventPacked (outcome : Result Domain) (v : Event) (answer : ℕ) (file file' : List ℕ) (before after : Entries) : Type 0 where
  pub answers : answer ≡ packed moved_packed (then outcome (λ d. good (moved d v.expander.0 before after)))
  pub edits : file' ≡ file_after outcome v file
  pub left : after ≡ entries_after outcome v before
