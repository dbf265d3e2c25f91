-- An address struck from the tables that lead over one link, and what becomes of requests for it (document 02, paper 11).
use Rattle.std.specs.Prelude.{ℕ, ◌≡◌, ◌⊎◌, ◌≢◌, Bool, cond, ◌&&◌, List, [], ◌∷◌, ◌++◌, map, length, take, drop, T, eqb}
use Rattle.tables.specs.WiringDefinitions.{bits_of, packed_in, Result, good, In, Place, places, Domain, phy_at, address_of, is_table, to_end, to_expander, NoTableToTable}
use Rattle.tables.specs.filling.Tables.{size, stretch}
use Rattle.tables.specs.filling.Entries.{Entries, entries, Room, room_of, counted_by}
use Rattle.tables.specs.JudgingCall.{TablesDone}
use Rattle.tracing.specs.Trace.{Traced, Request}
use Rattle.tracing.specs.Demand3.{TracedOver}
use Rattle.tracing.specs.declared.End.{End}
use Rattle.tracing.specs.declared.Outcome.TheVariants.{Arrived}

-- "one table, and those of its expander's other phys to the same neighbour": the phy at place q is phy p of expander x, or is another phy
-- of x that is attached to the same expander
abbrev pub beside : Domain → ℕ → ℕ → Place → Bool
beside d x p q =
    eqb q.expander x && (to_expander (phy_at d x q.phy) && eqb (address_of (phy_at d x q.phy)) (address_of (phy_at d x p)))

-- which words of the tables at these places are struck: 1 for each word of a table beside phy p of x that is s, and 0 for the others
unfoldable pub struck : Domain → ℕ → ℕ → ℕ → List Place → List ℕ → List ℕ
struck d x p s [] words = []
struck d x p s (q ∷ qs) words =
    map (λ w. cond (beside d x p q && eqb w s) 1 0) (take (size d q) words) ++ struck d x p s qs (drop (size d q) words)

-- struck as zeroed words: every occurrence becomes 0, and the bits stay
abbrev pub zeroed : Domain → ℕ → ℕ → ℕ → Entries → Entries
zeroed d x p s t = entries (counted_by (struck d x p s (places d) t.words) t.words) t.bits

-- these bits, with those set that are marked
unfoldable pub with_set : List ℕ → List ℕ → List ℕ
with_set marks [] = []
with_set [] (b ∷ bits) = b ∷ bits
with_set (m ∷ marks) (b ∷ bits) = cond (eqb m 0) b 1 ∷ with_set marks bits

-- struck as disabled entries: the bit of every occurrence is set, and the words stay
abbrev pub disabled : Domain → ℕ → ℕ → ℕ → Entries → Entries
disabled d x p s t = entries t.words (packed_in (length t.bits) (with_set (struck d x p s (places d) t.words) (bits_of t.bits)))

-- domain d of an accepted file; what its table call yields with so much room, and its trace call over entries with so many bytes lent
module _ (d : Domain) (table_called : Room → Result Domain) (trace_called : Entries → ℕ → Request → Result Traced) where
  -- a request for "any non-zero address of one table" from its expander: the table call gave these entries, and the table of phy p of the
  -- expander where the request starts has the address
  pub record Listed (p : ℕ) (q : Request) (filled : Entries) : Type 0 where
    pub before : Entries
    pub table_count : ℕ
    pub word_count : ℕ
    pub given : TablesDone (table_called (room_of before)) (good (record { table_count = table_count; word_count = word_count })) before filled
    pub routed : T (is_table (phy_at d q.start p))
    pub nonzero : q.address ≢ 0
    pub listed : In q.address (stretch d filled.words q.start p)

  -- a trace that isn't refused has not arrived
  abbrev pub NeverArrives : Entries → Request → Type 0
  NeverArrives t q = (e : End) (lent after : List ℕ) → TracedOver d table_called trace_called t q e lent after → e.outcome ≢ Arrived

  -- "every entry earns its index"
  pub record EarnsIndex : Type 0 where
    -- before the strike the request arrives: from the expander itself and from any end device there
    pub arrives : NoTableToTable d → (p : ℕ) (q : Request) (t : Entries) → Listed p q t
        → (q.arrival ≡ 255) ⊎ T (to_end (phy_at d q.start q.arrival))
        → (e : End) (lent after : List ℕ) → TracedOver d table_called trace_called t q e lent after → e.outcome ≡ Arrived
    -- "a request for it from that expander then doesn't arrive": struck either way, and with table-to-table links, too
    pub without_words : (p : ℕ) (q : Request) (t : Entries) → Listed p q t → NeverArrives (zeroed d q.start p q.address t) q
    pub without_bits : (p : ℕ) (q : Request) (t : Entries) → Listed p q t → NeverArrives (disabled d q.start p q.address t) q
    -- such a trace is refused exactly where it would be over the tables given: no room is lost by the strike
    pub room : (p : ℕ) (q : Request) (t : Entries)
        → (room_of (zeroed d q.start p q.address t) ≡ room_of t) × (room_of (disabled d q.start p q.address t) ≡ room_of t)
