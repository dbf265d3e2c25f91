-- What the trace call tests, cause by cause.
use Rattle.std.specs.Prelude.{ℕ, ◌≤◌, ◌<◌, ◌≡◌, ◌⊎◌, ◌≢◌, List, length, T}
use Rattle.tables.specs.WiringDefinitions.{Setting, Domain, phy_at, to_end}
use Rattle.tables.specs.filling.Tables.{needed}
use Rattle.tables.specs.filling.Entries.{Room, Enough}
use Rattle.tables.specs.TableCauses.{NoJudgingCause, judging_number}
use Rattle.tracing.specs.Trace.{Request}

-- none of causes 15 to 18 holds of a request with so much room for table entries and so many bytes lent
pub record Asks (q : Request) (room : Room) (bytes : ℕ) (d : Domain) : Type 0 where
  -- 15: start or phy not allowed
  pub start : q.start < length d
  pub arrives_by : (q.arrival ≡ 255) ⊎ T (to_end (phy_at d q.start q.arrival))
  -- 16 and 18: lent words, bytes for bits, or bytes for expanders passed fewer than needed
  pub enough : Enough (needed d) room
  pub enough_bytes : length d ≤ bytes
  -- 17: requested address zero
  pub nonzero : q.address ≢ 0

-- none of the causes that the trace call tests holds: those of the judging call, and 15 to 18
pub record NoTraceCause (setting : Setting) (file : List ℕ) (q : Request) (room : Room) (bytes : ℕ) : Type 0 where
  pub judging : NoJudgingCause setting file
  pub asks : Asks q room bytes judging.domain

-- 1 to 12, 14, 22 and 23, and 15 to 18
abbrev pub trace_number : ℕ → Type 0
trace_number n = judging_number n ⊎ ((15 ≤ n) × (n ≤ 18))
