-- What the event call tests, cause by cause.
use Rattle.std.specs.Prelude.{ℕ, ◌<◌, ◌≡◌, ◌⊎◌, List, length, T}
use Rattle.files.specs.declared.Setting.{Setting}
use Rattle.files.specs.declared.PhyFields.{PhyFields}
use Rattle.files.specs.declared.Phy.TheVariants.{Present}
use Rattle.files.specs.Domain.{Domain, expander_at, to_expander}
use Rattle.tables.specs.filling.Tables.{needed}
use Rattle.tables.specs.filling.Entries.{Room, Enough}
use Rattle.tables.specs.TableCauses.{NoJudgingCause, table_number}
use Rattle.events.specs.declared.Event.{Event}
use Rattle.events.specs.Events.{named}
use Rattle.events.specs.EventFile.{file_edited}

-- 20 does not hold: the named phy exists, is not vacant and is not attached to an expander
pub record Pluggable (d : Domain) (v : Event) : Type 0 where
  pub expander : v.expander.0 < length d
  pub phy : v.phy.0 < length (expander_at d v.expander.0).phys
  pub fields : PhyFields
  pub present : named d v ≡ Present fields
  pub unlinked : ¬ (T (to_expander (named d v)))

-- none of the causes that the event call tests holds, with so much room lent
pub record NoEventCause (setting : Setting) (file : List ℕ) (v : Event) (room : Room) : Type 0 where
  -- 22, 1 to 12, 23 and 14, of the file as lent
  pub judging : NoJudgingCause setting file
  -- 20: the named phy doesn't exist, is vacant or is attached to an expander
  pub pluggable : Pluggable judging.domain v
  -- 16 and 18: lent words, or bytes for bits, fewer than needed
  pub enough : Enough (needed judging.domain) room
  -- "the edited file is judged last": its own causes
  pub edited_judging : NoJudgingCause setting (file_edited file v)

-- 1 to 12, 14, 22 and 23, 16 and 18, and 20
abbrev pub event_number : ℕ → Type 0
event_number n = table_number n ⊎ (n ≡ 20)
