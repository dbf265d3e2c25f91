-- What a domain is that a file or a card holds: the ranges of its numbers, member by member, and the tests that it passes.
use Prim.Native.Nat.{◌≤◌, ◌<◌, ◌^◌}
use mathlib.Core.Path.{◌≡◌}
use mathlib.Core.List.{List, [], ◌∷◌}
use lib.ListN.{length}
use Rattle.frames.specs.Refusals.{Result}
use Rattle.files.specs.declared.Setting.{Setting}
use Rattle.files.specs.declared.Phy.{Phy}
use Rattle.files.specs.declared.Phy.TheVariants.{Vacant, Present}
use Rattle.files.specs.declared.PhyFields.{PhyFields}
use Rattle.files.specs.Settings.{InRange}
use Rattle.files.specs.Domain.{Expander, Domain}
use Rattle.cards.specs.CardRead.{units_tested}

pub record FieldsRange (f : PhyFields) : Type 0 where
  pub device_type_in : f.device_type < 8
  pub attribute_in : f.attribute < 4
  pub address_in_lem : f.address < 2 ^ 64
  pub attached-phy_in : f.attached_phy.0 < 256
  pub bare_in : f.device_type ≡ 0 → (f.address ≡ 0) × (f.attached_phy.0 ≡ 0)

abbrev pub PhyRange : Phy → Type 0
PhyRange (Vacant result) = (0 < result) × (result < 256)
PhyRange (Present f) = FieldsRange f

abbrev pub PhysRange : List Phy → Type 0
PhysRange [] = Unit {0}
PhysRange (φ ∷ φs) = PhyRange φ × PhysRange φs

pub record ExpanderRange (e : Expander) : Type 0 where
  pub own_address_in : e.address < 2 ^ 64
  pub route_indexes_in : e.route_indexes < 65536
  pub configurable_in : e.configurable < 2
  pub some-phys : 1 ≤ length e.phys
  pub few-phys : length e.phys ≤ 128
  pub phys_in_lem : PhysRange e.phys

abbrev pub ExpandersRange : Domain → Type 0
ExpandersRange [] = Unit {0}
ExpandersRange (e ∷ d) = ExpanderRange e × ExpandersRange d

-- all that causes 22 and 1 to 6 leave
pub record Legal (most : Setting) (d : Domain) : Type 0 where
  pub range : InRange most
  pub some : 1 ≤ length d
  pub few : length d ≤ most.expanders
  pub ranges : ExpandersRange d
  pub units : (k : Result Domain) → units_tested most 0 [] d k ≡ k
