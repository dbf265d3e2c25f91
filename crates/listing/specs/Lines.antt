-- The lines of the table words, as many at a time as a buffer has room for, and the whole listing.
use Rattle.std.specs.Prelude.{ℕ, zero, suc, ◌+◌, ◌-◌, ◌≡◌, cond, length, drop, leb, ltb}
use mathlib.Core.List.{List, [], ◌∷◌, ◌++◌, flat_map}
use Rattle.io.specs.Counts.{IsPrefixLen}
use Rattle.tables.specs.WiringDefinitions.{Domain, expander_at, Place, place, phy_places, places_from}
use Rattle.tables.specs.filling.Tables.{table, table_places, size, needed}
use Rattle.tables.specs.lists.GrowingLists.{WordsPut}
use Rattle.listing.specs.declared.Cursor.{Cursor}
use Rattle.listing.specs.Text.{line_of, totals_of}

-- an entry of a routing table: expander, phy, route index
pub record Entry : Type 0 where
  pub expander : ℕ
  pub phy : ℕ
  pub index : ℕ

abbrev pub entry : ℕ → ℕ → ℕ → Entry
entry i p k = record { expander = i; phy = p; index = k }

-- as many entries of phy p of expander i as `count`, from index k on
unfoldable pub table_entries : ℕ → ℕ → ℕ → ℕ → List Entry
table_entries i p k zero = []
table_entries i p k (suc count) = entry i p k ∷ table_entries i p (k + 1) count

-- the entries at these places: R at a table phy, none elsewhere
unfoldable pub place_entries : Domain → List Place → List Entry
place_entries d [] = []
place_entries d (q ∷ qs) = table_entries q.expander q.phy 0 (size d q) ++ place_entries d qs

-- the places after phy p of expander i, by expander and then phy
abbrev pub places_after : Domain → ℕ → ℕ → List Place
places_after d i p = phy_places i (p + 1) (length (expander_at d i).phys - (p + 1)) ++ places_from (i + 1) (drop (i + 1) d)

-- the entries from index k of phy p of expander i on: those of the phy, then those at the places after it
unfoldable pub entries_on : Domain → ℕ → ℕ → ℕ → List Entry
entries_on d i p k = table_entries i p k (size d (place i p) - k) ++ place_entries d (places_after d i p)

-- the entries from a cursor on
abbrev pub entries_from : Domain → Cursor → List Entry
entries_from d c = entries_on d c.expander.0 c.phy.0 c.index.0

abbrev pub cursor : ℕ → ℕ → ℕ → ℕ → Cursor
cursor i p k w = record { expander = record { 0 = i }; phy = record { 0 = p }; index = record { 0 = k }; word = w }

-- a cursor's next place: the next phy, or the next expander where there are no more phys
abbrev pub next_place : Domain → Cursor → Cursor
next_place d c =
    cond (ltb c.phy.0 (length (expander_at d c.expander.0).phys))
    (cursor c.expander.0 (c.phy.0 + 1) 0 c.word) (cursor (c.expander.0 + 1) 0 0 c.word)

-- the lines of words that stand in these entries, as far as there are entries and words
unfoldable pub word_lines : List Entry → List ℕ → List (List ℕ)
word_lines [] ws = []
word_lines (e ∷ es) [] = []
word_lines (e ∷ es) (w ∷ ws) = line_of e.expander e.phy e.index w ∷ word_lines es ws

-- the lines from a cursor on, with the words from its word on
abbrev pub lines_from : Domain → List ℕ → Cursor → List (List ℕ)
lines_from d ws c = word_lines (entries_from d c) (drop c.word ws)

-- a cursor at the first of these entries, and past the last expander where there is none
abbrev pub cursor_at : Domain → List Entry → ℕ → Cursor
cursor_at d [] w = cursor (length d) 0 0 w
cursor_at d (e ∷ es) w = cursor e.expander e.phy e.index w

-- the cursor so many lines on
abbrev pub cursor_after : Domain → Cursor → ℕ → Cursor
cursor_after d c n = cursor_at d (drop n (entries_from d c)) (c.word + n)

-- lines as one text
unfoldable pub text_of : List (List ℕ) → List ℕ
text_of [] = []
text_of (l ∷ ls) = l ++ text_of ls

-- the lines that are put after `end` bytes, up to the first for which no 80 of the 65,536 bytes are left
unfoldable pub fitting : ℕ → List (List ℕ) → List (List ℕ)
fitting end [] = []
fitting end (l ∷ ls) = cond (leb (end + 80) 65536) (l ∷ fitting (end + length l) ls) []

-- the lines from a cursor on that fit
abbrev pub chunk_from : Domain → List ℕ → Cursor → List (List ℕ)
chunk_from d ws c = fitting 0 (lines_from d ws c)

-- the text of so many chunks, each from the cursor after the one before
unfoldable pub chunks_from : Domain → List ℕ → Cursor → ℕ → List ℕ
chunks_from d ws c zero = []
chunks_from d ws c (suc n) = text_of (chunk_from d ws c) ++ chunks_from d ws (cursor_after d c (length (chunk_from d ws c))) n

-- a chunk of lines was put: its text, which lies within the buffer, and the cursor after its lines
pub record ChunkPut (d : Domain) (ws : List ℕ) (from : Cursor) (before after : List ℕ) (next : Cursor) (end : ℕ) : Type 0 where
  pub text : WordsPut before after 0 end (text_of (chunk_from d ws from))
  pub counts : IsPrefixLen end after
  pub place : next ≡ cursor_after d from (length (chunk_from d ws from))

-- the lines of words in the table of phy p of expander i, from index k on
unfoldable pub table_lines : ℕ → ℕ → ℕ → List ℕ → List (List ℕ)
table_lines i p k [] = []
table_lines i p k (w ∷ ws) = line_of i p k w ∷ table_lines i p (k + 1) ws

-- the lines of a domain's own tables, by expander, then phy, then index
unfoldable pub entry_lines : Domain → List (List ℕ)
entry_lines d = flat_map (λ q. table_lines q.expander q.phy 0 (table d q.expander q.phy)) (table_places d)

-- the whole listing: a line for each word of each table, then the totals
unfoldable pub listing_of : Domain → List ℕ
listing_of d = text_of (entry_lines d) ++ totals_of (length (table_places d)) (needed d)
