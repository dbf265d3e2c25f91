-- Which table, and which route index of it, a word of the tables belongs to; and what an accepted file's tables are.
use Rattle.std.specs.Prelude.{ℕ, ◌-◌, ◌≡◌, cond, List, [], ◌∷◌, ◌++◌, length, ltb}
use Rattle.wiring.specs.FrameDefinitions.{Result, refused, good, refusal}
use Rattle.files.specs.Domain.{Domain}
use Rattle.wiring.specs.phys.PhyCauses.{Place, places}
use Rattle.tables.specs.filling.Tables.{table_places, size, needed}
use Rattle.tables.specs.lists.GrowingLists.{places_at}
use Rattle.surveys.specs.declared.Entry.{Entry}
use Rattle.surveys.specs.declared.calls.Surveyed.{Surveyed}
use Rattle.std.specs.declared.result.Result.{Result as Search}

-- an entry: expander, phy and route index
abbrev pub entry : ℕ → ℕ → ℕ → Entry
entry i p k = record { expander = record { 0 = i }; phy = record { 0 = p }; index = record { 0 = k } }

-- the entry that is word k of the tables at these places, one after the other; 15 where there is no word k
unfoldable pub word_in : Domain → List Place → ℕ → Result Entry
word_in d [] k = refused (refusal 15 0 0)
word_in d (q ∷ qs) k = cond (ltb k (size d q)) (good (entry q.expander q.phy k)) (word_in d qs (k - size d q))

-- the entry that is word k of all tables
abbrev pub word_place : ℕ → Domain → Result Entry
word_place k d = word_in d (places d) k

-- after a search through the places of one expander: the entry, or what the places after them give for the words that are left
abbrev pub sought_in : Domain → List Place → Search Entry ℕ → Result Entry
sought_in d after (good e) = good e
sought_in d after (refused k) = word_in d after k

-- what the search through the places of expander i for word k gives, whatever places come after
abbrev pub SoughtAt : Domain → ℕ → ℕ → Search Entry ℕ → Type 0
SoughtAt d i k r = (after : List Place) → word_in d (places_at d i ++ after) k ≡ sought_in d after r

-- how many tables and words there are, and where word k is
abbrev pub survey_in : ℕ → Domain → Result Surveyed
survey_in k d = good (record { counted = record { table_count = length (table_places d); word_count = needed d }; place = word_place k d })
