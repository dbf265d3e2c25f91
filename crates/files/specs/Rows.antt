-- Rows: a domain as 64-bit words, 258 for each expander. A row has the address, a word with R, phy count and configurable bit, and
-- two words for each of 128 phys: its attached address, and its other fields.
use Rattle.std.specs.Prelude.{ℕ, zero, suc, ◌+◌, ◌-◌, ◌*◌, ◌/◌, ◌%◌, min, ◌≡◌, cond, List, [], ◌∷◌, ◌++◌, length, get_or, take, drop, replicate, eqb, leb}
use Rattle.frames.specs.Refusals.{Result, refused, good, unless, then, refusal}
use Rattle.files.specs.declared.Setting.{Setting}
use Rattle.files.specs.declared.Phy.{Phy}
use Rattle.files.specs.declared.Phy.TheVariants.{Vacant, Present}
use Rattle.files.specs.Domain.{Expander, Domain, address_of, expander_at}
use Rattle.files.specs.File.{domain_read}
use Rattle.files.specs.Settings.{most_phys, most_expanders}

-- how many words the row of one expander has
abbrev pub row_words : ℕ
row_words = 258

-- the words of rows for the most expanders
abbrev pub most_row_words : ℕ
most_row_words = most_expanders * row_words

-- a phy's second word: bit 0 is 0 where it is vacant, and the result follows; else it is 1, and type, attribute and attached phy follow
abbrev pub phy_word : Phy → ℕ
phy_word (Vacant result) = 2 * result
phy_word (Present f) = 1 + 2 * f.device_type + 8 * f.attribute + 32 * f.attached_phy.0

abbrev pub phy_words : List Phy → List ℕ
phy_words [] = []
phy_words (φ ∷ φs) = address_of φ ∷ phy_word φ ∷ phy_words φs

-- an expander's second word: R, number of phys, configurable bit
abbrev pub head_word : ℕ → ℕ → ℕ → ℕ
head_word route_indexes phys configurable = route_indexes + 65536 * phys + 16777216 * configurable

unfoldable pub row_of : Expander → List ℕ
row_of e =
    e.address ∷ head_word e.route_indexes (length e.phys) e.configurable
    ∷ (phy_words e.phys ++ replicate (256 - length (phy_words e.phys)) 0)

unfoldable pub rows_of : Domain → List ℕ
rows_of [] = []
rows_of (e ∷ d) = row_of e ++ rows_of d

-- back: any words are a domain, of at most 64 expanders with at most 128 phys each
abbrev pub phy_in : ℕ → ℕ → Phy
phy_in address w =
    cond (eqb (w % 2) 0) (Vacant (w / 2 % 256))
    (Present (record { device_type = w / 2 % 4; attribute = w / 8 % 4; address = address; attached_phy = record { 0 = w / 32 % 256 } }))

-- the phy that the two words of phy p of expander i hold, whether the expander has so many phys or not; words past the end are 0
unfoldable pub phy_in_row : List ℕ → ℕ → ℕ → Phy
phy_in_row ws i p = phy_in (get_or ws (row_words * i + 2 + 2 * p) 0) (get_or ws (row_words * i + 2 + 2 * p + 1) 0)

unfoldable pub phys_in : ℕ → List ℕ → List Phy
phys_in zero ws = []
phys_in (suc count) ws = phy_in (get_or ws 0 0) (get_or ws 1 0) ∷ phys_in count (drop 2 ws)

unfoldable pub row_in : List ℕ → Expander
row_in ws =
    record {
      address = get_or ws 0 0;
      route_indexes = get_or ws 1 0 % 65536;
      configurable = get_or ws 1 0 / 16777216 % 2;
      phys = phys_in (min most_phys (get_or ws 1 0 / 65536 % 256)) (drop 2 ws);
    }

unfoldable pub rows_in : ℕ → List ℕ → Domain
rows_in zero ws = []
rows_in (suc count) ws = row_in ws ∷ rows_in count (drop row_words ws)

unfoldable pub domain_in : List ℕ → Domain
domain_in ws = rows_in (min most_expanders (length ws / row_words)) ws

-- w is the second word of expander i's row, or 0 where there is no such expander
pub record HeadIn (d : Domain) (i w : ℕ) : Type 0 where
  pub route_indexes : w % 65536 ≡ (expander_at d i).route_indexes
  pub phys : min most_phys (w / 65536 % 256) ≡ length (expander_at d i).phys
  pub configurable : w / 16777216 % 2 ≡ (expander_at d i).configurable

-- 16 where the words are too few for the rows
abbrev pub rows_for : ℕ → Domain → Result Domain
rows_for room d = unless (leb (row_words * length d) room) (refusal 16 0 0) (good d)

-- reading a file into so many words: causes 22 and 1 to 6, then 16
unfoldable pub rows_read : Setting → List ℕ → ℕ → Result Domain
rows_read setting file room = then (domain_read setting file) (rows_for room)

abbrev pub count_of : Domain → Result ℕ
count_of d = good (length d)

-- the words after reading: the rows, and the words after them as they were; all as they were where refused
abbrev pub rows_after : Result Domain → List ℕ → List ℕ
rows_after (refused r) before = before
rows_after (good d) before = rows_of d ++ drop (row_words * length d) before

-- the first words are the domain's rows, and give it back
abbrev pub rows_hold : Result Domain → List ℕ → Type 0
rows_hold (refused r) after = Unit {0}
rows_hold (good d) after = domain_in (take (row_words * length d) after) ≡ d

-- all that reading a file into words promises: the answer, the words after, and that they give the domain back
pub record RowsRead (setting : Setting) (file : List ℕ) (answer : Result ℕ) (before after : List ℕ) : Type 0 where
  pub answers : answer ≡ then (rows_read setting file (length before)) count_of
  pub words : after ≡ rows_after (rows_read setting file (length before)) before
  pub holds : rows_hold (rows_read setting file (length before)) after
