-- What making a form and the calls over a form test, cause by cause.
use Rattle.std.specs.Prelude.{ℕ, ◌≤◌, ◌≡◌, ◌⊎◌, List, length}
use Rattle.files.specs.declared.Setting.{Setting}
use Rattle.files.specs.Settings.{InRange}
use Rattle.tables.specs.filling.Tables.{needed}
use Rattle.tables.specs.filling.Entries.{Room, Enough}
use Rattle.tables.specs.TableCauses.{NoJudgingCause, judging_number}
use Rattle.tracing.specs.Trace.{Request}
use Rattle.tracing.specs.TraceCauses.{Asks}
use Rattle.forms.specs.Form.{form_of}
use Rattle.forms.specs.FormCalls.{FormOf}

-- none of the causes that making a form tests holds, with so many words lent: those of judging, and 16
pub record NoMakingCause (setting : Setting) (file : List ℕ) (room : ℕ) : Type 0 where
  pub judging : NoJudgingCause setting file
  -- 16: lent words fewer than the form has
  pub enough : length (form_of judging.domain) ≤ room

abbrev pub making_number : ℕ → Type 0
making_number n = judging_number n ⊎ (n ≡ 16)

-- what every call over a form tests first
pub record NoOpeningCause (setting : Setting) (ws : List ℕ) : Type 0 where
  -- 22: a setting outside its range
  pub range : InRange setting
  -- 1: words that are the form of no accepted domain
  pub form : FormOf setting ws

abbrev pub opening_number : ℕ → Type 0
opening_number n = (n ≡ 22) ⊎ (n ≡ 1)

-- none of the causes that the table call over a form tests holds, with so much room lent
pub record NoFormTableCause (setting : Setting) (ws : List ℕ) (room : Room) : Type 0 where
  pub opening : NoOpeningCause setting ws
  -- 16 and 18: lent words, or bytes for bits, fewer than needed
  pub enough : Enough (needed opening.form.domain) room

-- 22, 1, 16 and 18
abbrev pub form_table_number : ℕ → Type 0
form_table_number n = opening_number n ⊎ ((n ≡ 16) ⊎ (n ≡ 18))

-- none of the causes that a trace over a form tests holds, with so much room for table entries and so many bytes lent
pub record NoFormTraceCause (setting : Setting) (ws : List ℕ) (q : Request) (room : Room) (bytes : ℕ) : Type 0 where
  pub opening : NoOpeningCause setting ws
  -- 15 to 18
  pub asks : Asks q room bytes opening.form.domain

-- 22, 1, and 15 to 18
abbrev pub form_trace_number : ℕ → Type 0
form_trace_number n = opening_number n ⊎ ((15 ≤ n) × (n ≤ 18))

-- none of the causes that a list of requests over a form tests as a whole holds, with so much room for table entries, so many words for answers, and so many
-- requests; it refuses with the numbers of the table call
pub record NoFormListCause (setting : Setting) (ws : List ℕ) (room : Room) (answers count : ℕ) : Type 0 where
  pub opening : NoOpeningCause setting ws
  -- 16 and 18: lent words, words for answers, or bytes for bits fewer than needed
  pub enough : Enough (needed opening.form.domain) room
  pub enough_answers : count ≤ answers
