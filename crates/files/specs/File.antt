-- The domain file under a setting: cause 22, then causes 1 to 6, unit by unit, and in each unit number by number.
use Rattle.std.specs.Prelude.{ℕ, zero, suc, ◌+◌, Bool, true, false, not, ◌||◌, ◌&&◌, List, [], ◌∷◌, ◌++◌, length, take, drop, eqb, leb}
use Rattle.frames.specs.Bytes.{byte, number_at}
use Rattle.frames.specs.Refusals.{Result, refused, good, unless, then, refusal}
use Rattle.frames.specs.Sizes.{frame_size}
use Rattle.frames.specs.ReportGeneral.{general_read}
use Rattle.frames.specs.Discovery.{discover_read}
use Rattle.frames.specs.declared.Discovered.{Discovered}
use Rattle.frames.specs.declared.Discovered.TheVariants.{Vacant as vacant, Fields as fields}
use Rattle.frames.specs.declared.General.{General}
use Rattle.frames.specs.declared.Discover.{Discover}
use Rattle.frames.specs.declared.Response.{Response}
use Rattle.frames.specs.declared.Response.TheVariants.{ReportGeneral, Discover as DiscoverResponse}
use Rattle.files.specs.declared.Setting.{Setting}
use Rattle.files.specs.declared.Parsed.{Parsed}
use Rattle.files.specs.declared.ExpanderUnit.{ExpanderUnit}
use Rattle.files.specs.declared.PhyFields.{PhyFields}
use Rattle.files.specs.declared.Phy.{Phy}
use Rattle.files.specs.declared.Phy.TheVariants.{Vacant, Present}
use Rattle.files.specs.Lists.{is_in}
use Rattle.files.specs.Settings.{within, in_range}
use Rattle.files.specs.Domain.{Expander, Domain}

module _ {A : Type 0} where
  abbrev pub parsed : A → ℕ → Parsed A
  parsed a n = record { value = a; next = n }

  -- the refusal of one frame, at its unit's place
  abbrev pub placed : ℕ → ℕ → Result A → Result A
  placed i p (refused r) = refused (refusal r.number i p)
  placed i p (good a) = good a

-- the size of the frame at offset `from` of a file: by its first four bytes (1, 2), then so many bytes (1)
unfoldable pub size_at : Response → List ℕ → ℕ → Result ℕ
size_at kind file from =
    then (frame_size kind (drop from file)) (λ size.
    unless (leb size (length (drop from file))) (refusal 1 0 0)
    (good size))

module _ {A : Type 0} where
  -- the frame at offset `from` of a file, read as one by itself, and the place after it
  abbrev pub frame_at : Response → (List ℕ → Result A) → List ℕ → ℕ → Result (Parsed A)
  frame_at kind read file from =
      then (size_at kind file from) (λ size.
      then (read (take size (drop from file))) (λ a.
      good (parsed a (from + size))))

-- the fields of a phy that is not vacant; where nothing is attached (true), the attached address and phy are ignored, and are 0
abbrev pub fields_of : Bool → Discover → PhyFields
fields_of true f = record { device_type = f.device_type; attribute = f.attribute; address = 0; attached_phy = record { 0 = 0 } }
fields_of false f = record { device_type = f.device_type; attribute = f.attribute; address = f.attached_address; attached_phy = f.attached_phy }

-- what cause 6 leaves of a phy's fields: type up to 3, attribute up to 2, and not attached with address zero
abbrev pub ranged : PhyFields → Bool
ranged f = leb f.device_type 3 && (leb f.attribute 2 && (eqb f.device_type 0 || not (eqb f.address 0)))

-- 5: phy identifier or own address differs from position; then 6
abbrev pub phy_of : ℕ → ℕ → ℕ → Discovered → Result Phy
phy_of own_address i p (vacant result) = good (Vacant result)
phy_of own_address i p (fields f) =
    unless (eqb f.identifier.0 p && eqb f.own_address own_address) (refusal 5 i p)
    (unless (ranged (fields_of (eqb f.device_type 0) f)) (refusal 6 i p)
    (good (Present (fields_of (eqb f.device_type 0) f))))

-- the unit of phy p of expander i, whose address is `own_address`, at offset `at`
unfoldable pub phy_unit : List ℕ → ℕ → ℕ → ℕ → ℕ → Result (Parsed Phy)
phy_unit file own_address i p at =
    then (placed i p (frame_at DiscoverResponse discover_read file at)) (λ f.
    then (phy_of own_address i p f.value) (λ φ.
    good (parsed φ f.next)))

-- the units of the last `count` phys of expander i, from phy p on
unfoldable pub phy_units : List ℕ → ℕ → ℕ → ℕ → ℕ → ℕ → Result (Parsed (List Phy))
phy_units file own_address i zero p at = good (parsed [] at)
phy_units file own_address i (suc count) p at =
    then (phy_unit file own_address i p at) (λ u.
    then (phy_units file own_address i count (p + 1) u.next) (λ us.
    good (parsed (u.value ∷ us.value) us.next)))

-- an expander's fields: its address, and those of its REPORT GENERAL response
abbrev pub unit_of : ℕ → General → ExpanderUnit
unit_of own_address g = record { address = own_address; route_indexes = g.route_indexes; phys = g.phys; configurable = g.configurable }

-- 3 and 4, of an expander's fields, where `used` are the addresses of the expanders before it: phy count outside its range; address
-- zero or already used
abbrev pub unit_tested : Setting → List ℕ → ℕ → ExpanderUnit → Result ExpanderUnit
unit_tested most used i u =
    unless (within most.phys u.phys) (refusal 3 i 0)
    (unless (not (eqb u.address 0) && not (is_in u.address used)) (refusal 4 i 0)
    (good u))

-- the unit of expander i at offset `at`: its address, and its frame from the byte after that on
unfoldable pub expander_unit : Setting → List ℕ → List ℕ → ℕ → ℕ → Result (Parsed ExpanderUnit)
expander_unit most file used i at =
    then (placed i 0 (frame_at ReportGeneral general_read file (at + 8))) (λ g.
    then (unit_tested most used i (unit_of (number_at file at 8) g.value)) (λ u.
    good (parsed u g.next)))

abbrev pub expander_of : ExpanderUnit → List Phy → Expander
expander_of u φs = record { address = u.address; route_indexes = u.route_indexes; configurable = u.configurable; phys = φs }

-- the last `count` expanders, from expander i on; then bytes after the last unit
unfoldable pub expanders : Setting → List ℕ → ℕ → ℕ → ℕ → List ℕ → Result Domain
expanders most file zero i at used = unless (eqb at (length file)) (refusal 1 i 0) (good [])
expanders most file (suc count) i at used =
    then (expander_unit most file used i at) (λ u.
    then (phy_units file u.value.address i u.value.phys 0 u.next) (λ φs.
    then (expanders most file count (i + 1) φs.next (used ++ (u.value.address ∷ []))) (λ d.
    good (expander_of u.value φs.value ∷ d))))

-- the header: the count of expanders
unfoldable pub header_unit : Setting → List ℕ → Result ℕ
header_unit most file =
    unless (leb 2 (length file)) (refusal 1 0 0)
    (unless (eqb (byte file 0) 0x10) (refusal 2 0 0)
    (unless (within most.expanders (byte file 1)) (refusal 3 0 0)
    (good (byte file 1))))

-- a domain file under a setting, as far as causes 22 and 1 to 6 go
unfoldable pub domain_read : Setting → List ℕ → Result Domain
domain_read most file =
    unless (in_range most) (refusal 22 0 0)
    (then (header_unit most file) (λ n. expanders most file n 0 2 []))
