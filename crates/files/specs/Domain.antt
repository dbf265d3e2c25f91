-- A domain: expanders, each with its phys in order.
use Rattle.std.specs.Prelude.{ℕ, suc, Bool, cond, not, ◌&&◌, List, [], ◌∷◌, get_or, eqb, leb}
use Rattle.files.specs.declared.Phy.{Phy}
use Rattle.files.specs.declared.Phy.TheVariants.{Vacant, Present}

-- SAS address, route indexes R, configurable bit, phys
pub record Expander : Type 0 where
  pub address : ℕ
  pub route_indexes : ℕ
  pub configurable : ℕ
  pub phys : List Phy

abbrev pub Domain : Type 0
Domain = List Expander

-- past the end: an expander without phys, and a vacant phy
abbrev pub no_expander : Expander
no_expander = record { address = 0; route_indexes = 0; configurable = 0; phys = [] }

abbrev pub expander_at : Domain → ℕ → Expander
expander_at d i = get_or d i no_expander

abbrev pub phy_at : Domain → ℕ → ℕ → Phy
phy_at d i p = get_or (expander_at d i).phys p (Vacant 0)

-- the attached device type; a vacant phy has nothing attached
abbrev pub type_of : Phy → ℕ
type_of (Vacant r) = 0
type_of (Present f) = f.device_type

-- the attached address
abbrev pub address_of : Phy → ℕ
address_of (Vacant r) = 0
address_of (Present f) = f.address

-- the attached phy identifier
abbrev pub attached_phy_of : Phy → ℕ
attached_phy_of (Vacant r) = 0
attached_phy_of (Present f) = f.attached_phy.0

-- the routing attribute: 0 direct, 1 subtractive, 2 table; 3 stands for none where the phy is vacant
abbrev pub attribute_of : Phy → ℕ
attribute_of (Vacant r) = 3
attribute_of (Present f) = f.attribute

-- a non-vacant phy with routing attribute k
abbrev pub has_attribute : ℕ → Phy → Bool
has_attribute k φ = eqb (attribute_of φ) k

-- and by name
abbrev pub is_table : Phy → Bool
is_table φ = has_attribute 2 φ

abbrev pub is_subtractive : Phy → Bool
is_subtractive φ = has_attribute 1 φ

abbrev pub is_direct : Phy → Bool
is_direct φ = has_attribute 0 φ

-- "attached": not vacant, and its type is not 0
abbrev pub attached : Phy → Bool
attached φ = not (eqb (type_of φ) 0)

-- attached to an end device: type 1
abbrev pub to_end : Phy → Bool
to_end φ = eqb (type_of φ) 1

-- attached to an expander: type 2 or 3
abbrev pub to_expander : Phy → Bool
to_expander φ = leb 2 (type_of φ)

-- an attached phy that bears the address
abbrev pub bears : ℕ → Phy → Bool
bears s φ = attached φ && eqb (address_of φ) s

-- the number of the first expander with this address, or the count of expanders where there is none
unfoldable pub number_of : Domain → ℕ → ℕ
number_of [] s = 0
number_of (e ∷ d) s = cond (eqb e.address s) 0 (suc (number_of d s))
