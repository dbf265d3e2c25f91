-- Some tables written afresh: those with one expander in one of their levels. The others stay as lent.
use Rattle.std.specs.Prelude.{ℕ, Bool, cond, List, [], ◌∷◌, ◌++◌, length, take, drop}
use Rattle.wiring.specs.FrameDefinitions.{bits_of, packed_in, zero_bits}
use Rattle.files.specs.Lists.{keep, is_in}
use Rattle.files.specs.Domain.{Domain}
use Rattle.wiring.specs.phys.PhyCauses.{Place}
use Rattle.tables.specs.levels.Levels.{levels}
use Rattle.tables.specs.filling.Tables.{table, table_places, size}
use Rattle.tables.specs.filling.Entries.{Entries, entries}
use Rattle.tables.specs.filling.WordsChanged.{changed}
use Rattle.tables.specs.declared.Moved.{Moved}

-- "touched": expander e is in one of the levels of the phy at this place
unfoldable pub touched : Domain → ℕ → Place → Bool
touched d e q = is_in e (levels d q.expander q.phy)

-- the table at a place
abbrev pub table_at : Domain → Place → List ℕ
table_at d q = table d q.expander q.phy

-- what stands at these places, one after the other, so many numbers each: the new ones where the test holds; elsewhere, and after the last, as before
unfoldable pub renewed : (Place → Bool) → (Place → ℕ) → (Place → List ℕ) → List Place → List ℕ → List ℕ
renewed test width new [] l = l
renewed test width new (q ∷ qs) l = cond (test q) (new q) (take (width q) l) ++ renewed test width new qs (drop (width q) l)

-- entries with some tables written afresh, and a bit for each of their words that is set exactly where the word is zero. All other words and
-- bits stay, padding bits and bytes after among them
abbrev pub refilled_by : Domain → (Place → Bool) → (Place → List ℕ) → Entries → Entries
refilled_by d test new before =
    entries (renewed test (size d) new (table_places d) before.words)
    (packed_in (length before.bits) (renewed test (size d) (λ q. zero_bits (new q)) (table_places d) (bits_of before.bits)))

-- those with expander e in one of their levels
abbrev pub refilled : Domain → ℕ → Entries → Entries
refilled d e before = refilled_by d (touched d e) (table_at d) before

-- how many tables are touched, and how many words changed
abbrev pub moved_by : Domain → (Place → Bool) → Entries → Entries → Moved
moved_by d test before after = record { table_count = length (keep test (table_places d)); word_count = changed before.words after.words }

abbrev pub moved : Domain → ℕ → Entries → Entries → Moved
moved d e before after = moved_by d (touched d e) before after
