-- Settings and answers of the C interface, each packed into one number.
use Rattle.std.specs.Prelude.{ℕ, ◌+◌, ◌*◌, ◌/◌, ◌%◌, ◌^◌, cond, not, List, eqb, leb}
use Rattle.tracing.specs.TableDefinitions.{Result, refused, good, GeneralSas2, short, long, Discovered, vacant, fields, General, LongGeneral, Discover, Route, Setting}
use Rattle.tables.specs.declared.Counted.{Counted}
use Rattle.surveys.specs.declared.Entry.{Entry}
pub use Rattle.tracing.specs.Packing.{pack_refusal, packed, pack_end, end_packed}
use Rattle.forms.specs.declared.FormCounts.{FormCounts}
use Rattle.tracing.specs.Steps.{Step, here, end_device, bad, lost, onward}
use Rattle.tracing.specs.Reasons.{StepTold}
use Rattle.tracing.specs.declared.Reason.{Reason}
use Rattle.tracing.specs.declared.Step.{Step as CodeStep}
use Rattle.tracing.specs.declared.Step.TheVariants.{Ended, Onward}
use Rattle.tracing.specs.declared.Outcome.TheVariants.{Arrived, NoDestination, BadDestination}

-- a setting: most expanders, most phys and longest chain, a byte each; with a bit above these 24, one outside its range (22)
abbrev pub setting_of : ℕ → Setting
setting_of n =
    cond (leb (2 ^ 24) n) (record { expanders = 0; phys = 0; chain = 0 })
    (record { expanders = n / 2 ^ 16; phys = n / 2 ^ 8 % 2 ^ 8; chain = n % 2 ^ 8 })

-- the version of the interface: major, minor and patch
abbrev pub version : ℕ
version = 0 * 2 ^ 16 + 1 * 2 ^ 8 + 0

-- an entry of a table: expander, phy, route index
abbrev pub entry_packed : Entry → ℕ
entry_packed e = e.expander.0 * 2 ^ 24 + e.phy.0 * 2 ^ 16 + e.index.0

-- a number as it is
abbrev pub number : ℕ → ℕ
number n = n

-- how many expanders, and how many words a form has
abbrev pub form_packed : FormCounts → ℕ
form_packed c = c.expander_count * 2 ^ 32 + c.word_count

-- how many tables, and how many words
abbrev pub counts : Counted → ℕ
counts c = c.table_count * 2 ^ 32 + c.word_count

-- 1 for BAD DESTINATION
abbrev pub pack_bad : Step → ℕ
pack_bad here = 0
pack_bad (end_device p) = 0
pack_bad bad = 1
pack_bad lost = 0
pack_bad (onward j q) = 0

-- the expander that a step goes on to and its arrival phy, a byte each; 255 where it goes no further
abbrev pub pack_next : Step → ℕ
pack_next here = 255 * 2 ^ 8 + 255
pack_next (end_device p) = 255 * 2 ^ 8 + 255
pack_next bad = 255 * 2 ^ 8 + 255
pack_next lost = 255 * 2 ^ 8 + 255
pack_next (onward j q) = j * 2 ^ 8 + q

-- a step of the code in the cases above. The phy at which a request ends is not packed, so arrived at the expander, which is phy 255 in the code,
-- is taken here for arrived at an end device
abbrev pub step_to_pack : CodeStep → Step
step_to_pack (Ended Arrived p) = end_device p.0
step_to_pack (Ended NoDestination p) = lost
step_to_pack (Ended BadDestination p) = bad
step_to_pack (Onward j q) = onward j.0 q.0

-- rule, phy picked and route index that matched
abbrev pub pack_reason : Reason → ℕ
pack_reason r = r.rule * 2 ^ 40 + r.phy.0 * 2 ^ 32 + r.index.0 * 2 ^ 16

-- a step and its reason
abbrev pub step_packed : StepTold → ℕ
step_packed t = pack_bad t.step * 2 ^ 48 + pack_reason t.reason + pack_next t.step

-- the bytes of a request
abbrev pub forty : List ℕ → ℕ
forty frame = 40

-- a request as it is told: its entry is disabled where the last number is not 0
abbrev pub route_told : ℕ → ℕ → ℕ → ℕ → ℕ → Route
route_told length phy index address disabled =
    record { length = length; phy = record { 0 = phy }; index = record { 0 = index }; address = address; disabled = not (eqb disabled 0) }

-- whether disabled, REQUEST LENGTH, phy and route index
abbrev pub route : Route → ℕ
route q = cond q.disabled 1 0 * 2 ^ 32 + q.length * 2 ^ 24 + q.phy.0 * 2 ^ 16 + q.index.0

-- the address, disabled or not, and 0 where refused
abbrev pub route_address : Result Route → ℕ
route_address (refused r) = 0
route_address (good q) = q.address

-- R, number of phys, configurable bit
abbrev pub general : General → ℕ
general g = g.route_indexes * 65536 + g.phys * 256 + g.configurable

-- of a long frame: bit 34, TABLE TO TABLE SUPPORTED, CONFIGURES OTHERS
abbrev pub pack_long : LongGeneral → ℕ
pack_long l = 2 ^ 34 + l.table_to_table * 2 ^ 33 + l.configures_others * 2 ^ 32

-- R, number of phys, configurable bit, and the fields of a long frame above them
abbrev pub general_sas2 : GeneralSas2 → ℕ
general_sas2 (short g) = general g
general_sas2 (long g l) = pack_long l + general g

-- identifier, type, attribute, attached phy
abbrev pub pack_fields : Discover → ℕ
pack_fields d = d.identifier.0 * 2 ^ 32 + d.device_type * 2 ^ 24 + d.attribute * 2 ^ 16 + d.attached_phy.0

-- bit 62 and the function result of a vacant phy; else the fields
abbrev pub discovered : Discovered → ℕ
discovered (vacant result) = 2 ^ 62 + result
discovered (fields d) = pack_fields d

-- the own and the attached address, and 0 where refused or vacant
abbrev pub own_address : Result Discovered → ℕ
own_address (refused r) = 0
own_address (good (vacant result)) = 0
own_address (good (fields d)) = d.own_address

abbrev pub attached_address : Result Discovered → ℕ
attached_address (refused r) = 0
attached_address (good (vacant result)) = 0
attached_address (good (fields d)) = d.attached_address
