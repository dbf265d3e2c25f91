-- The walk of a request from its start, and the trace call.
use Rattle.std.specs.Prelude.{ℕ, zero, suc, ◌≡◌, Bool, not, ◌||◌, ◌&&◌, List, [], ◌∷◌, ◌++◌, length, drop, eqb, ltb, leb}
use Rattle.tables.specs.WiringDefinitions.{bytes_for, Result, refused, good, unless, then, refusal, Setting, Domain, phy_at, to_end}
use Rattle.tables.specs.filling.Tables.{needed}
use Rattle.tables.specs.filling.Entries.{Entries, Room, room_of, counted}
use Rattle.tables.specs.JudgingCall.{judged_domain, judged}
use Rattle.tracing.specs.Steps.{Step, here, end_device, bad, lost, onward, step}
use Rattle.tracing.specs.declared.End.{End}
use Rattle.tracing.specs.declared.Outcome.{Outcome}
use Rattle.tracing.specs.declared.Outcome.TheVariants.{Arrived, NoDestination, BadDestination}

-- outcome, last expander, phy (255 unless arrived at an end device), and the expanders passed
pub record Traced : Type 0 where
  pub outcome : Outcome
  pub last : ℕ
  pub phy : ℕ
  pub passed : List ℕ

-- a trace that ends at expander i, which is the only one passed
abbrev pub ending_at : Outcome → ℕ → ℕ → Traced
ending_at o i p = record { outcome = o; last = i; phy = p; passed = i ∷ [] }

-- a trace, after these expanders
abbrev pub after : List ℕ → Traced → Traced
after l t = record { outcome = t.outcome; last = t.last; phy = t.phy; passed = l ++ t.passed }

-- the trace from expander i, by its step; `go` is the trace from the next expander
unfoldable pub after_step : ℕ → (ℕ → ℕ → Traced) → Step → Traced
after_step i go here = ending_at Arrived i 255
after_step i go (end_device p) = ending_at Arrived i p
after_step i go bad = ending_at BadDestination i 255
after_step i go lost = ending_at NoDestination i 255
after_step i go (onward j q) = after (i ∷ []) (go j q)

-- at most so many steps
unfoldable pub trace_from : ℕ → Domain → List ℕ → ℕ → ℕ → ℕ → Traced
trace_from zero d words i arrival s = record { outcome = NoDestination; last = i; phy = 255; passed = [] }
trace_from (suc steps) d words i arrival s = after_step i (λ j q. trace_from steps d words j q s) (step d words i arrival s)

-- a request: start expander, arrival phy (255: the expander itself), and the address asked for
pub record Request : Type 0 where
  pub start : ℕ
  pub arrival : ℕ
  pub address : ℕ

abbrev pub request : ℕ → ℕ → ℕ → Request
request i arrival s = record { start = i; arrival = arrival; address = s }

-- its trace; as many steps as there are expanders are enough (`Demand3.steps` in specs/Demand3)
unfoldable pub traced : Domain → List ℕ → Request → Traced
traced d words q = trace_from (length d) d words q.start q.arrival q.address

-- 15: a start expander, with arrival phy 255 or a phy attached to an end device
unfoldable pub allowed : Domain → ℕ → ℕ → Bool
allowed d i arrival = ltb i (length d) && (eqb arrival 255 || to_end (phy_at d i arrival))

-- causes 15, 16, 18 and 17 of a request in order, with so much room for table entries and so many bytes lent
unfoldable pub requested : Request → Room → ℕ → Domain → Result Domain
requested q room bytes d =
    unless (allowed d q.start q.arrival) (refusal 15 0 0)
    (unless (leb (needed d) room.words && leb (length d) bytes) (refusal 16 0 0)
    (unless (leb (bytes_for (needed d)) room.bits) (refusal 18 0 0)
    (unless (not (eqb q.address 0)) (refusal 17 0 0) (good d))))

-- causes 15 to 18, then the trace over the words that count: a request on an accepted domain, with lent entries and so many lent bytes
unfoldable pub traced_request : Domain → Entries → ℕ → Request → Result Traced
traced_request d t bytes q =
    then (requested q (room_of t) bytes d) (λ _.
    good (traced d (counted t) q))

-- the judging call's causes from 7 on, and 15 to 18, then the trace: the trace call on a domain that was read
unfoldable pub judged_request : ℕ → Domain → Entries → ℕ → Request → Result Traced
judged_request chain d t bytes q = then (judged_domain chain d) (λ e. traced_request e t bytes q)

-- the trace call on a file under a setting
unfoldable pub trace_call : Setting → List ℕ → Entries → ℕ → Request → Result Traced
trace_call setting file t bytes q = then (judged setting file) (λ d. traced_request d t bytes q)

-- what the answer says: outcome, last expander, phy, count
pub record Reported : Type 0 where
  pub outcome : Outcome
  pub last : ℕ
  pub phy : ℕ
  pub count : ℕ

abbrev pub report : Traced → Result Reported
report t = good (record { outcome = t.outcome; last = t.last; phy = t.phy; count = length t.passed })

abbrev pub trace_answer : Result End → Result Reported
trace_answer (refused r) = refused r
trace_answer (good e) = good (record { outcome = e.outcome; last = e.last.0; phy = e.phy.0; count = e.count })

-- the bytes after the call: the expanders passed, and the rest as it was; all as it was where refused
abbrev pub bytes_after : Result Traced → List ℕ → List ℕ
bytes_after (refused r) before = before
bytes_after (good t) before = t.passed ++ drop (length t.passed) before

-- all that a trace call with this outcome promises: the answer, and the bytes after
pub record TraceDone (outcome : Result Traced) (answer : Result End) (before after : List ℕ) : Type 0 where
  pub answers : trace_answer answer ≡ then outcome report
  pub bytes : after ≡ bytes_after outcome before
