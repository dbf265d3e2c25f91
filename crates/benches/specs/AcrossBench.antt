-- Arrival across the bench (document 02, paper 12): the words and bits over which requests go there, and how they end, in the terms of the two rigs.
use Rattle.std.specs.Prelude.{ℕ, ◌+◌, ◌<◌, ◌≡◌, ◌⊎◌, ◌↔◌, List, length, get_or}
use Rattle.frames.specs.Bits.{bits_of}
use Rattle.frames.specs.Refusals.{good}
use Rattle.files.specs.declared.Setting.{Setting}
use Rattle.files.specs.Domain.{Domain}
use Rattle.wiring.specs.graph.Devices.{Home, Borne}
use Rattle.tables.specs.filling.Entries.{Entries, room_of}
use Rattle.tables.specs.JudgingCall.{table_call, TablesDone}
use Rattle.tracing.specs.Trace.{Request, request}
use Rattle.tracing.specs.Demand3.{Starts, Delivered, Mission}
use Rattle.tracing.specs.declared.End.{End}
use Rattle.tracing.specs.declared.Outcome.TheVariants.{Arrived, NoDestination}

-- entries of n words, of which the first n₁ are those of one, and the other n₂ those of the other: words and disable bits
pub record OneAfterOther (n₁ n₂ n : ℕ) (one other both : Entries) : Type 0 where
  pub count : n ≡ n₁ + n₂
  pub first_word : (k : ℕ) → k < n₁ → get_or both.words k 0 ≡ get_or one.words k 0
  pub first_bit : (k : ℕ) → k < n₁ → get_or (bits_of both.bits) k 0 ≡ get_or (bits_of one.bits) k 0
  -- word k and bit k of the other stand at n₁ + k
  pub second_word : (k : ℕ) → k < n₂ → get_or both.words (n₁ + k) 0 ≡ get_or other.words k 0
  pub second_bit : (k : ℕ) → k < n₂ → get_or (bits_of both.bits) (n₁ + k) 0 ≡ get_or (bits_of other.bits) k 0

-- the table call on a file answered counts, so many words, and left these entries
pub record GivenFor (setting : Setting) (file : List ℕ) (word_count : ℕ) (filled : Entries) : Type 0 where
  pub before : Entries
  pub table_count : ℕ
  pub given : TablesDone (table_call setting file (room_of before)) (good (record { table_count = table_count; word_count = word_count })) before filled

-- entries for the bench: those that the table call gave for the joined file, or those that it gave for the first and the second file, one after the other
pub data BenchEntries (setting : Setting) (first second bench : List ℕ) (t : Entries) : Type 0 where
  filled_anew : (n : ℕ) → GivenFor setting bench n t → BenchEntries setting first second bench t
  brought_along : (n₁ n₂ n : ℕ) (one other : Entries) → GivenFor setting first n₁ one → GivenFor setting second n₂ other → OneAfterOther n₁ n₂ n one other t
      → BenchEntries setting first second bench t

-- a request from a device of either rig, which does not bear the address if it is an end device: expanders of the second have the first's count added
abbrev pub FromEither : Domain → Domain → Request → Type 0
FromEither d₁ d₂ r =
    ((r.start < length d₁) × Starts d₁ r)
    ⊎ ((x : ℕ) × (x < length d₂) × (r.start ≡ length d₁ + x) × Starts d₂ (request x r.arrival r.address))

-- how a request on the bench ends: what its answer is, and the lent bytes after
pub record AcrossBench (d₁ d₂ bench : Domain) (r : Request) (e : End) (lent after : List ℕ) : Type 0 where
  -- as in the mission, on the joined domain
  pub mission : Mission bench r e lent after
  -- it arrives exactly when a device of either rig bears the address
  pub arrives : FromEither d₁ d₂ r → (e.outcome ≡ Arrived) ↔ (Borne d₁ r.address ⊎ Borne d₂ r.address)
  -- along the one chain, each expander once, and reports them and their number: where the device is at expander m of the first, and of the second
  pub to_first : FromEither d₁ d₂ r → (m : ℕ) → m < length d₁ → Home d₁ r.address m → Delivered bench r m e lent after
  pub to_second : FromEither d₁ d₂ r → (m : ℕ) → m < length d₂ → Home d₂ r.address m → Delivered bench r (length d₁ + m) e lent after
  -- otherwise NO DESTINATION
  pub otherwise : ¬ (Borne d₁ r.address) → ¬ (Borne d₂ r.address) → e.outcome ≡ NoDestination
