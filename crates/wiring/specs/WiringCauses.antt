-- What the wiring call tests, cause by cause; and what causes 11 and 12 test, for the calls that run them too (23: `ShortChains`).
use Rattle.std.specs.Prelude.{ℕ, ◌≤◌, ◌<◌, ◌≡◌, ◌⊎◌, List, length, T}
use Rattle.frames.specs.Refusals.{good}
use Rattle.files.specs.declared.Setting.{Setting}
use Rattle.files.specs.Domain.{Domain}
use Rattle.files.specs.Settings.{InRange}
use Rattle.files.specs.File.{domain_read}
use Rattle.wiring.specs.phys.PhyCauses.{unanswered, claimed, clashing, fixed}
use Rattle.wiring.specs.graph.Devices.{LoopIn, ChainIn}

-- none of causes 7 to 10 holds of a phy
pub record Passed (d : Domain) : Type 0 where
  -- 7: type 2 or 3 on a direct phy, or far end missing or not naming this phy back
  pub seven : (i p : ℕ) → ¬ (T (unanswered d i p))
  -- 8: type 1 bearing an expander's address, or one also attached as type 1 at an earlier expander
  pub eight : (i p : ℕ) → ¬ (T (claimed d i p))
  -- 9: an attached phy and a lower attached one of its expander: same address, other attribute; or both subtractive, other address
  pub nine : (i p : ℕ) → ¬ (T (clashing d i p))
  -- 10: non-vacant table phy, configurable bit 0
  pub ten : (i p : ℕ) → ¬ (T (fixed d i p))

-- neither of causes 11 and 12 holds
pub record Linked (d : Domain) : Type 0 where
  -- 11: there is no loop
  pub no_loop : ¬ (LoopIn d)
  -- 12: a chain joins expander 0 to every expander
  pub chained : (i : ℕ) → i < length d → (l : List ℕ) × ChainIn d 0 i l

-- none of the causes that the wiring call tests holds, with so many words lent
pub record NoWiringCause (setting : Setting) (file : List ℕ) (room : ℕ) : Type 0 where
  pub domain : Domain
  -- 22: a setting outside its range
  pub range : InRange setting
  -- 1 to 6, unit by unit
  pub read : domain_read setting file ≡ good domain
  -- 7 to 10
  pub passed : Passed domain
  -- 16: lent buffer shorter than needed
  pub enough : length domain ≤ room

-- 1 to 10, 16, and 22
abbrev pub wiring_number : ℕ → Type 0
wiring_number n = ((1 ≤ n) × (n ≤ 10)) ⊎ ((n ≡ 16) ⊎ (n ≡ 22))
