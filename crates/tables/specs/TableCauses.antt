-- What the judging call and the table call test, cause by cause.
use Rattle.std.specs.Prelude.{ℕ, ◌≤◌, ◌≡◌, ◌⊎◌, List, length, T}
use Rattle.wiring.specs.FrameDefinitions.{good}
use Rattle.files.specs.declared.Setting.{Setting}
use Rattle.files.specs.Domain.{Domain, expander_at, phy_at, is_table}
use Rattle.files.specs.Settings.{InRange}
use Rattle.files.specs.File.{domain_read}
use Rattle.wiring.specs.graph.LongChains.{ShortChains}
use Rattle.wiring.specs.WiringCauses.{Passed, Linked}
use Rattle.tables.specs.filling.Tables.{level_list, needed}
use Rattle.tables.specs.filling.Entries.{Room, Enough}

-- none of causes 11, 12, 23 and 14 holds, where a chain may have so many expanders: tables can be given
pub record Routable (chain : ℕ) (d : Domain) : Type 0 where
  -- 11 and 12: there is no loop, every expander is chained to the first
  pub linked : Linked d
  -- 23: no chain has more expanders than the setting allows
  pub short : ShortChains chain d
  -- 14: no level list exceeds R
  pub fits : (i p : ℕ) → T (is_table (phy_at d i p)) → length (level_list d i p) ≤ (expander_at d i).route_indexes

-- none of causes 22, 1 to 12, 23 and 14 holds: an accepted file
pub record NoJudgingCause (setting : Setting) (file : List ℕ) : Type 0 where
  pub domain : Domain
  -- 22: a setting outside its range
  pub range : InRange setting
  -- 1 to 6, unit by unit
  pub read : domain_read setting file ≡ good domain
  -- 7 to 10
  pub passed : Passed domain
  -- 11, 12, 23 and 14
  pub routable : Routable setting.chain domain

-- none of the causes that the table call tests, with so much room lent: those, 16 and 18
pub record NoTableCause (setting : Setting) (file : List ℕ) (room : Room) : Type 0 where
  pub judging : NoJudgingCause setting file
  -- 16 and 18: lent words, or bytes for bits, fewer than needed
  pub enough : Enough (needed judging.domain) room

-- 1 to 12, and 14, as 13 is withdrawn; 22 and 23; and 16 and 18
abbrev pub judging_number : ℕ → Type 0
judging_number n = ((1 ≤ n) × (n ≤ 12)) ⊎ ((n ≡ 14) ⊎ ((n ≡ 22) ⊎ (n ≡ 23)))

abbrev pub table_number : ℕ → Type 0
table_number n = judging_number n ⊎ ((n ≡ 16) ⊎ (n ≡ 18))
