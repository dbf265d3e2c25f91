-- Demand 3, in the order of its sentences, said of the answers and the lent words and bytes of the table call and the trace call.
use Rattle.std.specs.Prelude.{ℕ, ◌<◌, ◌≡◌, ◌⊎◌, ◌≢◌, ◌↔◌, List, [], ◌∷◌, ◌++◌, length, take, drop, T}
use Rattle.tables.specs.WiringDefinitions.{good, Result, Distinct, Below, last, Domain, expander_at, phy_at, address_of, to_end}
use Rattle.tables.specs.WiringDefinitions.{ChainIn, ClearChain, Home, Borne}
use Rattle.tables.specs.filling.Tables.{needed}
use Rattle.tables.specs.filling.Entries.{Entries, Room, room_of, Enough, counted}
use Rattle.tables.specs.declared.Counted.{Counted}
use Rattle.tables.specs.JudgingCall.{TablesDone}
use Rattle.tables.specs.TableCauses.{Routable}
use Rattle.tracing.specs.Steps.{Step, here, end_device, bad, lost, onward, step}
use Rattle.tracing.specs.Trace.{Traced, Request, TraceDone}
use Rattle.tracing.specs.declared.Outcome.{Outcome}
use Rattle.tracing.specs.declared.Outcome.TheVariants.{Arrived, NoDestination, BadDestination}
use Rattle.tracing.specs.declared.End.{End}

-- a request from the expander itself, or from an end device that does not bear the address
abbrev pub Starts : Domain → Request → Type 0
Starts d q =
    (q.arrival ≡ 255)
    ⊎ (T (to_end (phy_at d q.start q.arrival)) × (address_of (phy_at d q.start q.arrival) ≢ q.address))

-- a request from an end device for that device's own address
abbrev pub ForItself : Domain → Request → Type 0
ForItself d q = T (to_end (phy_at d q.start q.arrival)) × (address_of (phy_at d q.start q.arrival) ≡ q.address)

-- "requests whose chain crosses no such link, or whose address no device bears" (document 02, paper 3): whichever device bears the
-- address, the chain to it crosses no table-to-table link
abbrev pub Uncrossed : Domain → Request → Type 0
Uncrossed d q = (m : ℕ) → m < length d → Home d q.address m → (l : List ℕ) → ChainIn d q.start m l → ClearChain d l

-- where a trace for address s that arrives at expander m ends: phy 255 where m bears s, else a phy of m attached to an end device with s
abbrev pub EndsAt : Domain → ℕ → ℕ → ℕ → Type 0
EndsAt d s m p = (((expander_at d m).address ≡ s) × (p ≡ 255)) ⊎ (T (to_end (phy_at d m p)) × (address_of (phy_at d m p) ≡ s))

-- how a step that is no move onward ends a trace: outcome and phy
abbrev pub Stops : Step → Outcome → ℕ → Type 0
Stops here o p = (o ≡ Arrived) × (p ≡ 255)
Stops (end_device q) o p = (o ≡ Arrived) × (p ≡ q)
Stops bad o p = (o ≡ BadDestination) × (p ≡ 255)
Stops lost o p = (o ≡ NoDestination) × (p ≡ 255)
Stops (onward j q) o p = ⊥

-- the steps for address s from expander i, where it arrived at this phy, with no bound on their number: a step is taken at i and at each
-- of l, each moves on to the next, and the last is no move onward and ends the trace so
abbrev pub Taken : Domain → List ℕ → ℕ → ℕ → ℕ → List ℕ → Outcome → ℕ → Type 0
Taken d words s i arrival [] o p = Stops (step d words i arrival s) o p
Taken d words s i arrival (j ∷ l) o p = (q : ℕ) × (step d words i arrival s ≡ onward j q) × Taken d words s j q l o p

-- the expanders passed are those at which the steps of the request were taken, and it ended at the last of them
pub record StepsTaken (d : Domain) (words : List ℕ) (q : Request) (passed : List ℕ) (outcome : Outcome) (end phy : ℕ) : Type 0 where
  pub rest : List ℕ
  pub from_start : passed ≡ q.start ∷ rest
  pub ends : last q.start rest ≡ end
  pub taken : Taken d words q.address q.start q.arrival rest outcome phy

-- the answer to a request that arrives at expander m, and the lent bytes after: it passed the one chain from its start to m, and
-- reports its expanders and their number
pub record Delivered (d : Domain) (q : Request) (m : ℕ) (e : End) (lent after : List ℕ) : Type 0 where
  pub outcome : e.outcome ≡ Arrived
  pub end : e.last.0 ≡ m
  pub phy : EndsAt d q.address m e.phy.0
  pub passed : List ℕ
  pub chain : ChainIn d q.start m passed
  pub only : (l : List ℕ) → ChainIn d q.start m l → l ≡ passed
  pub count : e.count ≡ length passed
  pub bytes : after ≡ passed ++ drop (length passed) lent

-- the answer to a request that is BAD DESTINATION where it starts, and the lent bytes after
pub record ToldBad (q : Request) (e : End) (lent after : List ℕ) : Type 0 where
  pub outcome : e.outcome ≡ BadDestination
  pub end : e.last.0 ≡ q.start
  pub phy : e.phy.0 ≡ 255
  pub count : e.count ≡ 1
  pub bytes : after ≡ q.start ∷ drop 1 lent

-- how a request over the tables given ends, by the mission: what its answer is, and the lent bytes after
pub record Mission (d : Domain) (q : Request) (e : End) (lent after : List ℕ) : Type 0 where
  -- "a request arrives exactly when a device bears the address"
  pub arrives : Starts d q → (e.outcome ≡ Arrived) ↔ Borne d q.address
  -- "along the one chain, each expander once, and reports them and their number"
  pub along : Starts d q → (m : ℕ) → m < length d → Home d q.address m → Delivered d q m e lent after
  -- "otherwise NO DESTINATION"
  pub otherwise : ¬ (Borne d q.address) → e.outcome ≡ NoDestination

-- domain d, past causes 22 and 1 to 10; what its table call yields with so much room, and its trace call over table entries, words and
-- bits, with so many bytes lent
module _ (d : Domain) (table_called : Room → Result Domain) (trace_called : Entries → ℕ → Request → Result Traced) where
  -- a request over these entries, which is a trace that isn't refused: the trace call answered e, and left these bytes of those lent
  abbrev pub TracedOver : Entries → Request → End → List ℕ → List ℕ → Type 0
  TracedOver t q e lent after = TraceDone (trace_called t (length lent) q) (good e) lent after

  -- a request over the tables given: words and bits as the table call left them, which answered with counts
  pub record OverTables (q : Request) (e : End) (lent after : List ℕ) : Type 0 where
    pub before : Entries
    pub filled : Entries
    pub table_count : ℕ
    pub word_count : ℕ
    pub given : TablesDone (table_called (room_of before)) (good (record { table_count = table_count; word_count = word_count })) before filled
    pub over : TracedOver filled q e lent after

  -- a chain may have so many expanders
  pub record Demand3 (chain : ℕ) : Type 0 where
    -- "tables are given exactly when there is no loop, every expander is chained to the first, and no level list exceeds R", and "only where
    -- the limits are kept as well" (document 02, paper 13): with room, the table call answers with counts exactly then. The limits on expanders
    -- and phys are kept where the domain is past cause 3
    pub given : (before filled : Entries) (answer : Result Counted) → Enough (needed d) (room_of before) → TablesDone (table_called (room_of before)) answer before filled
        → ((t w : ℕ) × (answer ≡ good (record { table_count = t; word_count = w }))) ↔ Routable chain d
    -- "over those tables": requests whose chain crosses no table-to-table link, or whose address no device bears, end as in the mission
    pub mission : (q : Request) (e : End) (lent after : List ℕ) → OverTables q e lent after → Uncrossed d q → Mission d q e lent after
    -- whatever words and bits: a request that arrives arrives where the address is borne
    pub borne : (t : Entries) (q : Request) (e : End) (lent after : List ℕ) → TracedOver t q e lent after → e.outcome ≡ Arrived
        → (e.last.0 < length d) × EndsAt d q.address e.last.0 e.phy.0
    -- "whatever words the tables hold", and whatever bits, "no request passes an expander twice": as many of the bytes as are counted are different expanders
    pub once : (t : Entries) (q : Request) (e : End) (lent after : List ℕ) → TracedOver t q e lent after
        → (length (take e.count after) ≡ e.count) × (Distinct (take e.count after) × Below (length d) (take e.count after))
    -- whatever words and bits: those bytes are the expanders at which the steps over the words that count were taken, which never run out:
    -- the last is no move onward
    pub steps : (t : Entries) (q : Request) (e : End) (lent after : List ℕ) → TracedOver t q e lent after
        → StepsTaken d (counted t) q (take e.count after) e.outcome e.last.0 e.phy.0
    -- whatever words and bits: an end device that asks for itself, which `Starts` leaves out, is told BAD DESTINATION where it is attached
    pub itself : (t : Entries) (q : Request) (e : End) (lent after : List ℕ) → TracedOver t q e lent after → ForItself d q → ToldBad q e lent after
