-- What `explain_step` tests, cause by cause.
use Rattle.std.specs.Prelude.{ℕ, ◌<◌, ◌≡◌, ◌⊎◌, ◌≢◌, List, length, T}
use Rattle.tables.specs.WiringDefinitions.{Result, refused, good, Setting, Domain, phy_at, attached}
use Rattle.tables.specs.filling.Tables.{needed}
use Rattle.tables.specs.filling.Entries.{Room, Enough}
use Rattle.tables.specs.TableCauses.{NoJudgingCause}
use Rattle.tracing.specs.Trace.{Request}
use Rattle.tracing.specs.declared.Reason.{Reason}
use Rattle.tracing.specs.declared.Told.{Told}

-- none of causes 15 to 18 holds of a request at one expander, with so much room for table entries
pub record AsksStep (q : Request) (room : Room) (d : Domain) : Type 0 where
  -- 15: no such expander, or an arrival phy that is neither 255 nor attached
  pub expander : q.start < length d
  pub arrives_by : (q.arrival ≡ 255) ⊎ T (attached (phy_at d q.start q.arrival))
  -- 16 and 18: lent words, or bytes for bits, fewer than needed
  pub enough : Enough (needed d) room
  -- 17: requested address zero
  pub nonzero : q.address ≢ 0

-- none of the causes holds: those of the judging call, and 15 to 18. The numbers are those of the trace call
pub record NoStepCause (setting : Setting) (file : List ℕ) (q : Request) (room : Room) : Type 0 where
  pub judging : NoJudgingCause setting file
  pub asks : AsksStep q room judging.domain

-- what the answer says: a refusal, or the rule that applies
abbrev pub reason_told : Result Told → Result Reason
reason_told (refused r) = refused r
reason_told (good t) = good t.reason
