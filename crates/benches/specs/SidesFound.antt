-- What the inner functions of the join call are told.
use Rattle.std.specs.Prelude.{ℕ, ◌+◌, ◌*◌, ◌≤◌, min, ◌≡◌, Bool, ◌&&◌, List, length, T, leb}
use Rattle.frames.specs.Bytes.{byte}
use Rattle.frames.specs.Refusals.{Result, good, unless, then, refusal}
use Rattle.files.specs.declared.Setting.{Setting}
use Rattle.files.specs.Domain.{Domain}
use Rattle.wiring.specs.index.AddressIndex.{slots_before}
use Rattle.tables.specs.JudgingCall.{judged}
use Rattle.benches.specs.declared.SideFound.{SideFound}
use Rattle.benches.specs.declared.Counts.{Counts}
use Rattle.benches.specs.JoinCall.{free, shifted}
use Rattle.files.specs.Rows.{row_words}
use Rattle.files.specs.Settings.{most_expanders, most_phys}

-- a file that is accepted as a domain of n expanders
pub record Accepted (setting : Setting) (file : List ℕ) (n : ℕ) : Type 0 where
  pub domain : Domain
  pub accepted : judged setting file ≡ good domain
  pub count : n ≡ length domain

-- how many expanders a file has, and whether its named phy can take the cable
abbrev pub side_of : ℕ → ℕ → Domain → Result SideFound
side_of i p d = good (record { count = length d; free = free d i p })

-- 21, and 3 where the expanders are too many, of files of n and m expanders whose named phys can take the cable, or not
abbrev pub counts_for : ℕ → ℕ → ℕ → Bool → Result Counts
counts_for most n m f =
    unless f (refusal 21 0 0)
    (unless (leb (n + m) most) (refusal 3 0 0)
    (good (record { one = n; other = m })))

-- all that the join call tests before the joined domain: both files judged, 21, and 3 as the joined header has it
unfoldable pub files_for : Setting → List ℕ → ℕ → ℕ → List ℕ → ℕ → ℕ → Result Counts
files_for setting first i p second j q =
    then (judged setting first) (λ d₁.
    then (shifted (length d₁) (judged setting second)) (λ d₂.
    counts_for setting.expanders (length d₁) (length d₂) (free d₁ i p && free d₂ j q)))

-- two accepted files of n and m expanders whose named phys can take the cable, with no more expanders than the setting allows
pub record Ready (setting : Setting) (first : List ℕ) (n i p : ℕ) (second : List ℕ) (m j q : ℕ) : Type 0 where
  pub one : Accepted setting first n
  pub other : Accepted setting second m
  pub few : n + m ≤ setting.expanders
  pub free_one : T (free one.domain i p)
  pub free_other : T (free other.domain j q)

-- how many expanders two files state, and no more than 64
abbrev pub stated_both : List ℕ → List ℕ → ℕ
stated_both first second = min most_expanders (byte first 1 + byte second 1)

-- room for the rows of so many expanders, and for the entries of their slots and phys
pub record JoinRoom (n : ℕ) (rows who low : List ℕ) : Type 0 where
  pub words : row_words * n ≤ length rows
  pub slots : slots_before n ≤ length who
  pub phys : most_phys * n ≤ length low
