-- Causes by number, the answers of checks, and tests of one phy.
use Rattle.std.specs.Prelude.{ℕ, min, ◌*◌, ◌≤◌, ◌<◌, ◌≡◌, Bool, false, cond, ◌&&◌, List, length, eqb, leb}
use Rattle.frames.specs.Refusals.{Result, refused, good, unless, refusal}
use Rattle.files.specs.declared.Setting.{Setting}
use Rattle.files.specs.Domain.{Domain, expander_at}
use Rattle.wiring.specs.phys.PhyCauses.{unanswered, claimed, clashing, fixed, phy_places, first_in, first_of}
use Rattle.wiring.specs.graph.LinkCauses.{checked_domain}
use Rattle.wiring.specs.index.AddressIndex.{slots_before, most_slots, most_domain_phys, IndexRoom}
use Rattle.files.specs.File.{domain_read}
use Rattle.files.specs.Rows.{row_words, most_row_words}
use Rattle.files.specs.Settings.{most_phys, most_expanders}

-- what the answer says in document 01's terms: the domain itself where it passed
abbrev pub check_answer : Domain → Result Unit → Result Domain
check_answer d (refused r) = refused r
check_answer d (good passed) = good d

-- the answer of a search through the whole domain: number k, at the lowest phy at which the test holds
abbrev pub FirstOfAll : Domain → Result Unit → ℕ → (Domain → ℕ → ℕ → Bool) → Type 0
FirstOfAll d r k test = check_answer d r ≡ first_of k (test d) d

-- through the phys of expander i
abbrev pub FirstOfExpander : Domain → Result Unit → ℕ → (Domain → ℕ → ℕ → Bool) → ℕ → Type 0
FirstOfExpander d r k test i = check_answer d r ≡ first_in k (test d) (phy_places i 0 (length (expander_at d i).phys)) d

-- the causes that stand at one phy, by number
unfoldable pub cause_of : ℕ → Domain → ℕ → ℕ → Bool
cause_of k d i p =
    cond (eqb k 7) (unanswered d i p)
    (cond (eqb k 8) (claimed d i p)
    (cond (eqb k 9) (clashing d i p)
    (cond (eqb k 10) (fixed d i p) false)))

-- number k, at the lowest phy of expander i at which cause k holds
abbrev pub first_at : ℕ → Domain → ℕ → Result Domain
first_at k d i = first_in k (cause_of k d) (phy_places i 0 (length (expander_at d i).phys)) d

-- phy p is one of expander i, and cause k holds at no lower one
pub record Testable (k : ℕ) (d : Domain) (i p : ℕ) : Type 0 where
  pub within : p < length (expander_at d i).phys
  pub none : (q : ℕ) → q < p → cause_of k d i q ≡ false

-- causes 7 to 12 and 23 in order, where there is room for entries of so many slots and phys: 16 otherwise
unfoldable pub checked_in : ℕ → ℕ → ℕ → Domain → Result Domain
checked_in chain first low d = unless (leb (slots_before (length d)) first && leb (most_phys * length d) low) (refusal 16 0 0) (checked_domain chain d)

-- room for the rows of a file's domain, and for the entries of its slots and phys
pub record FileRoom (setting : Setting) (file words first low : List ℕ) : Type 0 where
  pub rows : (d : Domain) → domain_read setting file ≡ good d → row_words * length d ≤ length words
  pub index : (d : Domain) → domain_read setting file ≡ good d → IndexRoom d first low

-- room, no more than the most expanders need, for the rows of a file that states so many expanders, and for the entries of their slots and phys
pub record RoomFor (stated words first low : ℕ) : Type 0 where
  pub rows : row_words * min most_expanders stated ≤ words
  pub slots : slots_before (min most_expanders stated) ≤ first
  pub phys : most_phys * min most_expanders stated ≤ low
  pub no_more : (words ≤ most_row_words) × ((first ≤ most_slots) × (low ≤ most_domain_phys))
