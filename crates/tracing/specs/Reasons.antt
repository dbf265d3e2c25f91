-- Why an expander does what it does with a request: which of steps (i) to (v) applies, and the call that says it of one expander.
use Rattle.std.specs.Prelude.{ℕ, suc, Bool, cond, not, ◌||◌, ◌&&◌, List, [], ◌∷◌, length, eqb, ltb, leb}
use Rattle.tables.specs.WiringDefinitions.{bytes_for, Result, refused, good, unless, then, refusal, Setting, Domain, expander_at, phy_at, address_of, attached}
use Rattle.tables.specs.filling.Tables.{needed, stretch}
use Rattle.tables.specs.filling.Entries.{Entries, Room, room_of, counted}
use Rattle.tables.specs.JudgingCall.{judged}
use Rattle.tables.specs.lists.PreparedLists.{judged_in}
use Rattle.tracing.specs.Steps.{Step, here, bad, lost, Pick, at, nowhere, pick, phy_numbers, came_from, move_by, arriving, bearing, listing, subtracting, step}
use Rattle.tracing.specs.Trace.{Request}
use Rattle.tracing.specs.Answers.{step_of}
use Rattle.tracing.specs.declared.Reason.{Reason}
use Rattle.tracing.specs.declared.Told.{Told}

-- a rule, 1 to 5 for (i) to (v), the phy picked, and the route index of the entry that matched; 255 and 65535 where there is none
abbrev pub because : ℕ → ℕ → ℕ → Reason
because rule phy index = record { rule = rule; phy = record { 0 = phy }; index = record { 0 = index } }

-- the lowest index at which the words have the address; their number where they do not
unfoldable pub index_of : ℕ → List ℕ → ℕ
index_of s [] = 0
index_of s (w ∷ l) = cond (eqb s w) 0 (suc (index_of s l))

-- (iv), or (v) where there is no such phy, or the arrival phy is attached to its address
unfoldable pub by_subtraction : Domain → ℕ → ℕ → Pick → Reason
by_subtraction d i came nowhere = because 5 255 65535
by_subtraction d i came (at p) = cond (eqb (address_of (phy_at d i p)) came) (because 5 255 65535) (because 4 p 65535)

-- (iii), or what comes after
unfoldable pub by_entry : Domain → List ℕ → ℕ → ℕ → Pick → Reason → Reason
by_entry d words i s nowhere after = after
by_entry d words i s (at p) after = because 3 p (index_of s (stretch d words i p))

-- (ii), or what comes after
unfoldable pub by_phy : Pick → Reason → Reason
by_phy nowhere after = after
by_phy (at p) after = because 2 p 65535

-- (iv) and (iii), each with what comes after it
abbrev pub subtractive_reason : Domain → ℕ → ℕ → Reason
subtractive_reason d i came = by_subtraction d i came (pick (subtracting d i) (phy_numbers d i))

abbrev pub table_reason : Domain → List ℕ → ℕ → ℕ → ℕ → Reason
table_reason d words i came s = by_entry d words i s (pick (listing d words i s) (phy_numbers d i)) (subtractive_reason d i came)

-- the reason of the step of expander i for address s, arrived at this phy
unfoldable pub reason : Domain → List ℕ → ℕ → ℕ → ℕ → Reason
reason d words i arrival s =
    cond (eqb (expander_at d i).address s) (because 1 255 65535)
    (by_phy (pick (bearing d i s) (phy_numbers d i)) (table_reason d words i (came_from d i arrival) s))

-- what a rule does with the phy that it picks, where the request came from this address
abbrev pub done_by : Domain → ℕ → ℕ → Reason → Step
done_by d i came r =
    cond (eqb r.rule 1) here
    (cond (eqb r.rule 2) (arriving d i came r.phy.0)
    (cond (eqb r.rule 3) (cond (eqb (address_of (phy_at d i r.phy.0)) came) bad (move_by d i r.phy.0))
    (cond (eqb r.rule 4) (move_by d i r.phy.0) lost)))

-- 15: an expander, with arrival phy 255 or an attached phy
unfoldable pub step_allowed : Domain → ℕ → ℕ → Bool
step_allowed d i arrival = ltb i (length d) && (eqb arrival 255 || attached (phy_at d i arrival))

-- causes 15, 16, 18 and 17 in order, with so much room for table entries
unfoldable pub step_requested : Request → Room → Domain → Result Domain
step_requested q room d =
    unless (step_allowed d q.start q.arrival) (refusal 15 0 0)
    (unless (leb (needed d) room.words) (refusal 16 0 0)
    (unless (leb (bytes_for (needed d)) room.bits) (refusal 18 0 0)
    (unless (not (eqb q.address 0)) (refusal 17 0 0) (good d))))

-- the step of one expander, and its reason
pub record StepTold : Type 0 where
  pub reason : Reason
  pub step : Step

abbrev pub step_told : Domain → List ℕ → Request → StepTold
step_told d words q = record { reason = reason d words q.start q.arrival q.address; step = step d words q.start q.arrival q.address }

-- on an accepted domain; on a domain of rows, with room for entries of so many slots and phys; and on a file under a setting
unfoldable pub step_asked : Domain → Entries → Request → Result StepTold
step_asked d t q = then (step_requested q (room_of t) d) (λ _. good (step_told d (counted t) q))

unfoldable pub step_in : ℕ → ℕ → ℕ → Domain → Entries → Request → Result StepTold
step_in chain first low d t q = then (judged_in chain first low d) (λ e. step_asked e t q)

unfoldable pub step_call : Setting → List ℕ → Entries → Request → Result StepTold
step_call setting file t q = then (judged setting file) (λ d. step_asked d t q)

-- how the code says what the call answers
abbrev pub step_answer_of : Result StepTold → Result Told
step_answer_of (refused r) = refused r
step_answer_of (good t) = good (record { reason = t.reason; step = step_of t.step })
