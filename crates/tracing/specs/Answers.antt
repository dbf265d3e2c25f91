-- What the code's answers say, and what its parts promise.
use Rattle.std.specs.Prelude.{ℕ, ◌≡◌, List, ◌++◌, length, take, drop}
use Rattle.tables.specs.WiringDefinitions.{places_from}
use Rattle.tables.specs.WiringDefinitions.{good, Result, then, Domain}
use Rattle.tables.specs.filling.Tables.{sizes}
use Rattle.tables.specs.filling.Entries.{Entries}
use Rattle.tables.specs.lists.PreparedLists.{judged_in}
use Rattle.tracing.specs.Steps.{Step as Stepped, here, end_device, bad, lost, onward, Pick as Picked, at, nowhere, pick, phy_numbers}
use Rattle.tracing.specs.Steps.{bearing, listing, subtracting, subtractively, by_table, directly}
use Rattle.tracing.specs.Trace.{Request, Traced, traced_request, report, trace_answer}
use Rattle.tracing.specs.declared.Step.{Step}
use Rattle.tracing.specs.declared.Step.TheVariants.{Ended, Onward}
use Rattle.std.specs.declared.option.Option.{Option}
use Rattle.std.specs.declared.option.Option.TheVariants.{None, Some}
use Rattle.frames.specs.declared.PhyId.{PhyId}
use Rattle.tracing.specs.declared.Outcome.{Outcome}
use Rattle.tracing.specs.declared.Outcome.TheVariants.{Arrived, NoDestination, BadDestination}
use Rattle.tracing.specs.declared.End.{End}

-- how the code says that a request ends at the expander itself: with phy 255
abbrev pub ended_here : Outcome → Step
ended_here o = Ended o (record { 0 = 255 })

-- how the code says what a step does: it ends with an outcome and a phy, or goes on
abbrev pub step_of : Stepped → Step
step_of here = ended_here Arrived
step_of (end_device p) = Ended Arrived (record { 0 = p })
step_of bad = ended_here BadDestination
step_of lost = ended_here NoDestination
step_of (onward j q) = Onward (record { 0 = j }) (record { 0 = q })

-- what a pick says in document 01's terms
abbrev pub pick_answer : Option PhyId → Picked
pick_answer (Some p) = at p.0
pick_answer None = nowhere

-- the phys that (ii), (iii) and (iv) pick
abbrev pub bearing_pick : Domain → ℕ → ℕ → Picked
bearing_pick d i s = pick (bearing d i s) (phy_numbers d i)

abbrev pub listing_pick : Domain → List ℕ → ℕ → ℕ → Picked
listing_pick d words i s = pick (listing d words i s) (phy_numbers d i)

abbrev pub subtracting_pick : Domain → ℕ → Picked
subtracting_pick d i = pick (subtracting d i) (phy_numbers d i)

-- (iv), (iii) and (ii), each with what comes after it
abbrev pub subtractive_step : Domain → ℕ → ℕ → Stepped
subtractive_step d i came = subtractively d i came (subtracting_pick d i)

abbrev pub table_step : Domain → List ℕ → ℕ → ℕ → ℕ → Stepped
table_step d words i came s = by_table d i came (listing_pick d words i s) (subtractive_step d i came)

abbrev pub direct_step : Domain → List ℕ → ℕ → ℕ → ℕ → Stepped
direct_step d words i came s = directly d i came (bearing_pick d i s) (table_step d words i came s)

-- the words of the tables of the expanders before i
abbrev pub words_before : Domain → ℕ → ℕ
words_before d i = sizes d (places_from 0 (take i d))

-- how the code says that a walk ends
abbrev pub end_of : Outcome → ℕ → ℕ → ℕ → End
end_of o i p count = record { outcome = o; last = record { 0 = i }; phy = record { 0 = p }; count = count }

-- what a walk answers, and its bytes
pub record Walked (t : Traced) (end : End) (before after : List ℕ) : Type 0 where
  pub ends : trace_answer (good end) ≡ report t
  pub bytes : after ≡ t.passed ++ drop (length t.passed) before

-- the judging call's causes from 7 on, and 15 to 18, then the trace; 14 by own lists, and 16 where there is no room for entries of so
-- many slots and phys
unfoldable pub request_in : ℕ → ℕ → ℕ → Domain → Entries → ℕ → Request → Result Traced
request_in chain first low d t bytes q = then (judged_in chain first low d) (λ e. traced_request e t bytes q)
