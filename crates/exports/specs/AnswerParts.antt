-- How a caller takes apart, by / and %, an answer that is no refusal.
use Rattle.std.specs.Prelude.{ℕ, ◌/◌, ◌%◌, ◌^◌, ◌≤◌, ◌<◌, ◌≡◌, cond}
use Rattle.tracing.specs.TableDefinitions.{GeneralSas2, short, long, Discovered, vacant, fields, General, LongGeneral, Discover, Route}
use Rattle.tables.specs.declared.Counted.{Counted}
use Rattle.tracing.specs.Trace.{Reported}
use Rattle.tracing.specs.Packing.{pack_outcome}
use Rattle.tracing.specs.Steps.{Step, here, end_device, bad, lost, onward}
use Rattle.tracing.specs.Reasons.{StepTold}
use Rattle.tables.specs.declared.Moved.{Moved}
use Rattle.surveys.specs.declared.Entry.{Entry}
use Rattle.forms.specs.declared.FormCounts.{FormCounts}
use Rattle.exports.specs.Packing.{pack_bad}

-- a number is the answer itself
abbrev pub Itself : ℕ → ℕ → Type 0
Itself n answer = answer ≡ n

-- two counts: the high and the low 32 bits
abbrev pub Halves : ℕ → ℕ → ℕ → Type 0
Halves high low answer = (answer / 2 ^ 32 ≡ high) × (answer % 2 ^ 32 ≡ low)

-- tables and words; expanders and words of a form; tables touched and words changed
abbrev pub CountsBack : Counted → ℕ → Type 0
CountsBack c = Halves c.table_count c.word_count

abbrev pub FormBack : FormCounts → ℕ → Type 0
FormBack c = Halves c.expander_count c.word_count

abbrev pub MovedBack : Moved → ℕ → Type 0
MovedBack m = Halves m.table_count m.word_count

-- an entry of a table
pub record EntryBack (e : Entry) (answer : ℕ) : Type 0 where
  pub expander : answer / 2 ^ 24 ≡ e.expander.0
  pub phy : answer / 2 ^ 16 % 2 ^ 8 ≡ e.phy.0
  pub index : answer % 2 ^ 16 ≡ e.index.0

-- the end of a request
pub record EndBack (t : Reported) (answer : ℕ) : Type 0 where
  pub outcome : answer / 2 ^ 24 ≡ pack_outcome t.outcome
  pub last : answer / 2 ^ 16 % 2 ^ 8 ≡ t.last
  pub phy : answer / 2 ^ 8 % 2 ^ 8 ≡ t.phy
  pub count : answer % 2 ^ 8 ≡ t.count

-- the expander that a step goes on to, and its arrival phy; 255 where it goes no further
abbrev pub next_expander : Step → ℕ
next_expander here = 255
next_expander (end_device p) = 255
next_expander bad = 255
next_expander lost = 255
next_expander (onward j q) = j

abbrev pub next_arrival : Step → ℕ
next_arrival here = 255
next_arrival (end_device p) = 255
next_arrival bad = 255
next_arrival lost = 255
next_arrival (onward j q) = q

-- a step and its reason
pub record StepBack (t : StepTold) (answer : ℕ) : Type 0 where
  pub bad : answer / 2 ^ 48 ≡ pack_bad t.step
  pub rule : answer / 2 ^ 40 % 2 ^ 8 ≡ t.reason.rule
  pub phy : answer / 2 ^ 32 % 2 ^ 8 ≡ t.reason.phy.0
  pub index : answer / 2 ^ 16 % 2 ^ 16 ≡ t.reason.index.0
  pub expander : answer / 2 ^ 8 % 2 ^ 8 ≡ next_expander t.step
  pub arrival : answer % 2 ^ 8 ≡ next_arrival t.step

-- a request to load an entry
pub record RouteBack (q : Route) (answer : ℕ) : Type 0 where
  pub disabled : answer / 2 ^ 32 ≡ cond q.disabled 1 0
  pub length : answer / 2 ^ 24 % 2 ^ 8 ≡ q.length
  pub phy : answer / 2 ^ 16 % 2 ^ 8 ≡ q.phy.0
  pub index : answer % 2 ^ 16 ≡ q.index.0

-- a REPORT GENERAL response
pub record GeneralBack (g : General) (answer : ℕ) : Type 0 where
  pub route_indexes : answer / 2 ^ 16 % 2 ^ 16 ≡ g.route_indexes
  pub phys : answer / 2 ^ 8 % 2 ^ 8 ≡ g.phys
  pub configurable : answer % 2 ^ 8 ≡ g.configurable

-- of a long one besides
pub record LongBack (l : LongGeneral) (answer : ℕ) : Type 0 where
  pub table_to_table : answer / 2 ^ 33 % 2 ≡ l.table_to_table
  pub configures_others : answer / 2 ^ 32 % 2 ≡ l.configures_others

-- and bit 34 is set where it is long
abbrev pub Sas2Back : GeneralSas2 → ℕ → Type 0
Sas2Back (short g) answer = (answer / 2 ^ 34 % 2 ≡ 0) × GeneralBack g answer
Sas2Back (long g l) answer = (answer / 2 ^ 34 % 2 ≡ 1) × LongBack l answer × GeneralBack g answer

-- a DISCOVER response
pub record FieldsBack (d : Discover) (answer : ℕ) : Type 0 where
  pub identifier : answer / 2 ^ 32 ≡ d.identifier.0
  pub device_type : answer / 2 ^ 24 % 2 ^ 8 ≡ d.device_type
  pub attribute : answer / 2 ^ 16 % 2 ^ 8 ≡ d.attribute
  pub attached_phy : answer % 2 ^ 16 ≡ d.attached_phy.0

-- bit 62 is set where the phy is vacant
abbrev pub DiscoveredBack : Discovered → ℕ → Type 0
DiscoveredBack (vacant result) answer = (2 ^ 62 ≤ answer) × (answer % 2 ^ 8 ≡ result)
DiscoveredBack (fields d) answer = (answer < 2 ^ 62) × FieldsBack d answer
