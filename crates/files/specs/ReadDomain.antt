-- What causes 22 and 1 to 6 leave of a domain (`Read`), and what the bytes of a file have room for (`FitsDomain`): a file of bytes reads as
-- a domain of which both hold. And the numbers that reading a file tests (`read_number`).
use Rattle.std.specs.Prelude.{ℕ, ◌^◌, ◌≤◌, ◌<◌, ◌≡◌, ◌≢◌, ◌⊎◌, List, map, length, get_or}
use Rattle.files.specs.declared.Setting.{Setting}
use Rattle.files.specs.declared.PhyFields.{PhyFields}
use Rattle.files.specs.declared.Phy.{Phy}
use Rattle.files.specs.declared.Phy.TheVariants.{Vacant, Present}
use Rattle.files.specs.Lists.{In, Distinct}
use Rattle.files.specs.Settings.{InRange}
use Rattle.files.specs.Domain.{Expander, Domain}

-- a phy that is not vacant (6); where nothing is attached, the attached address and phy are 0
pub record ReadFields (f : PhyFields) : Type 0 where
  pub device_type : f.device_type ≤ 3
  pub attribute : f.attribute ≤ 2
  pub borne : f.device_type ≢ 0 → f.address ≢ 0
  pub bare : f.device_type ≡ 0 → (f.address ≡ 0) × (f.attached_phy.0 ≡ 0)

-- a non-zero function result makes a phy vacant
abbrev pub ReadPhy : Phy → Type 0
ReadPhy (Vacant result) = result ≢ 0
ReadPhy (Present f) = ReadFields f

-- an expander: its address is not zero (4), its phys are 1 or more and within the limit (3)
pub record ReadExpander (most : Setting) (e : Expander) : Type 0 where
  pub borne : e.address ≢ 0
  pub configurable : e.configurable ≤ 1
  pub some : 1 ≤ length e.phys
  pub few : length e.phys ≤ most.phys
  pub phys : (φ : Phy) → In φ e.phys → ReadPhy φ

abbrev pub addresses : Domain → List ℕ
addresses d = map (λ e. e.address) d

-- a domain: the setting is in range (22), its expanders are 1 or more and within the limit (3), and their addresses differ (4)
pub record Read (most : Setting) (d : Domain) : Type 0 where
  pub range : InRange most
  pub some : 1 ≤ length d
  pub few : length d ≤ most.expanders
  pub differ : Distinct (addresses d)
  pub each : (e : Expander) → In e d → ReadExpander most e

-- all numbers of a list are bytes
abbrev pub Bytes : List ℕ → Type 0
Bytes s = (k : ℕ) → get_or s k 0 < 256

-- a function result and a phy identifier have one byte, an address has eight
abbrev pub FitsPhy : Phy → Type 0
FitsPhy (Vacant result) = result < 256
FitsPhy (Present f) = (f.address < 2 ^ 64) × (f.attached_phy.0 < 256)

-- R has two bytes, and a number of phys one
pub record FitsExpander (e : Expander) : Type 0 where
  pub address : e.address < 2 ^ 64
  pub route_indexes : e.route_indexes < 65536
  pub count : length e.phys < 256
  pub phys : (φ : Phy) → In φ e.phys → FitsPhy φ

-- a count of expanders has one byte
pub record FitsDomain (d : Domain) : Type 0 where
  pub count : length d < 256
  pub each : (e : Expander) → In e d → FitsExpander e

-- 1 to 6, and 22: what reading a file tests
abbrev pub read_number : ℕ → Type 0
read_number n = ((1 ≤ n) × (n ≤ 6)) ⊎ (n ≡ 22)
