-- What the functions that write touched tables afresh promise: the numbers from a place on renewed, how far they went, and what they counted.
use Rattle.std.specs.Prelude.{ℕ, ◌+◌, ◌*◌, ◌≤◌, ◌<◌, ◌^◌, ◌≡◌, Bool, ◌&&◌, List, ◌++◌, length, take, drop}
pub use Rattle.frames.specs.Bits.{with_bit}
use Rattle.wiring.specs.FrameDefinitions.{bits_of, zero_bits}
use Rattle.files.specs.Lists.{keep}
use Rattle.files.specs.declared.Phy.{Phy}
use Rattle.files.specs.Domain.{Domain, is_table, to_expander, phy_at}
use Rattle.wiring.specs.phys.PhyCauses.{Place, place}
use Rattle.tables.specs.filling.Tables.{size, sizes, needed}
use Rattle.tables.specs.filling.Entries.{Entries, room_of, Room, Enough}
use Rattle.tables.specs.filling.WordsChanged.{changed}
use Rattle.tables.specs.events.TouchedTables.{renewed, moved_by}
use Rattle.tables.specs.events.ReplugCall.{own_touched, own_table_at, own_refilled}
use Rattle.tables.specs.declared.events.refilling.Tally.{Tally}
use Rattle.tables.specs.declared.Moved.{Moved}
use Rattle.tables.specs.lists.GrowingLists.{places_at}
use Rattle.tables.specs.lists.PreparedLists.{most_downstream, order_of, Fillable}

-- numbers renewed from a place on, where the tables at these places stand one after the other
unfoldable pub renewed_at : Domain → (Place → Bool) → (Place → List ℕ) → List Place → ℕ → List ℕ → List ℕ
renewed_at d test new qs at l = take at l ++ renewed test (size d) new qs (drop at l)

-- a table phy attached to an expander: no other phy has levels
abbrev pub table_link : Phy → Bool
table_link φ = is_table φ && to_expander φ

-- a place that is passed over: its words are gone through, and nothing is counted
pub record Passed (d : Domain) (q : Place) (s r : Tally) : Type 0 where
  pub next : r.at ≡ s.at + size d q
  pub tables : r.tables ≡ s.tables
  pub words : r.words ≡ s.words
  pub few : size d q < 65536

-- from one tally to the next at n places: at most 65536 words and one table for each, and no more words changed than gone through
pub record TallyBounds (n : ℕ) (s r : Tally) : Type 0 where
  pub far : r.at ≤ s.at + 65536 * n
  pub few : r.tables ≤ s.tables + n
  pub less : r.words + s.at ≤ s.words + r.at

-- the tables at these places gone through: those with expander e in their order are written afresh with their bits, and are counted as
-- the words changed are
pub record Rewritten (d : Domain) (e : ℕ) (qs : List Place) (s r : Tally) (before after : Entries) : Type 0 where
  pub same : room_of after ≡ room_of before
  pub words : after.words ≡ renewed_at d (own_touched d e) (own_table_at d) qs s.at before.words
  pub bits : bits_of after.bits ≡ renewed_at d (own_touched d e) (λ q. zero_bits (own_table_at d q)) qs s.at (bits_of before.bits)
  pub next : r.at ≡ s.at + sizes d qs
  pub counted : r.tables ≡ s.tables + length (keep (own_touched d e) qs)
  pub differs : r.words ≡ s.words + changed before.words after.words

-- going through the table of phy p of expander i: its order, no list is too long, and words and bits for it
abbrev pub RefillReady : Domain → List ℕ → ℕ → ℕ → Tally → List ℕ → List ℕ → Type 0
RefillReady d order i p s words bits =
    (order ≡ order_of d (phy_at d i p)) × (Fillable d × (((s.tables < 2 ^ 32) × (s.words ≤ s.at))
    × ((s.at + size d (place i p) ≤ length words) × (s.at + size d (place i p) ≤ 8 * length bits))))

-- through the tables of expander i, with room for one order
abbrev pub RefillsReady : Domain → List ℕ → ℕ → Tally → List ℕ → List ℕ → Type 0
RefillsReady d order i s words bits =
    (most_downstream * length d < length order) × (Fillable d × (((s.tables ≤ 16384) × (s.words ≤ s.at))
    × ((s.at + sizes d (places_at d i) ≤ length words) × (s.at + sizes d (places_at d i) ≤ 8 * length bits))))

-- through all tables
abbrev pub RefillAllReady : Domain → List ℕ → Room → Type 0
RefillAllReady d order room = (most_downstream * length d < length order) × (Fillable d × Enough (needed d) room)

-- the touched tables are written afresh, and the answer counts them and the words changed
abbrev pub RefilledAll : Domain → ℕ → Moved → Entries → Entries → Type 0
RefilledAll d e r before after = (after ≡ own_refilled d e before) × (r ≡ moved_by d (own_touched d e) before after)
