-- Rig cards: a domain as a row of bits, most significant first, and back.
use Rattle.std.specs.Prelude.{ℕ, zero, suc, ◌+◌, ◌*◌, ◌-◌, Bool, true, false, List, [], ◌∷◌, ◌++◌, length, drop, eqb}
use Rattle.frames.specs.Bits.{number_bits, field, packed}
use Rattle.files.specs.declared.Phy.{Phy}
use Rattle.files.specs.declared.Phy.TheVariants.{Vacant, Present}
use Rattle.files.specs.declared.PhyFields.{PhyFields}
use Rattle.files.specs.declared.ExpanderUnit.{ExpanderUnit}
use Rattle.files.specs.Domain.{Expander, Domain}
use Rattle.files.specs.Settings.{most_expanders, most_phys}
use Rattle.files.specs.File.{expander_of}

-- attached address and attached phy, when the type isn't 0
abbrev pub end_bits : Bool → PhyFields → List ℕ
end_bits true f = []
end_bits false f = number_bits 64 f.address ++ number_bits 8 f.attached_phy.0

-- one bit: 0 and the result of a vacant phy; or 1, type and attribute, and what is attached
abbrev pub phy_bits : Phy → List ℕ
phy_bits (Vacant result) = 0 ∷ number_bits 8 result
phy_bits (Present f) = 1 ∷ (number_bits 3 f.device_type ++ (number_bits 2 f.attribute ++ end_bits (eqb f.device_type 0) f))

unfoldable pub phys_bits : List Phy → List ℕ
phys_bits [] = []
phys_bits (φ ∷ φs) = phy_bits φ ++ phys_bits φs

-- address, R, configurable, phys less 1
abbrev pub head_bits : Expander → List ℕ
head_bits e =
    number_bits 64 e.address ++ (number_bits 16 e.route_indexes ++ (number_bits 1 e.configurable ++ number_bits 7 (length e.phys - 1)))

unfoldable pub expanders_bits : Domain → List ℕ
expanders_bits [] = []
expanders_bits (e ∷ d) = head_bits e ++ (phys_bits e.phys ++ expanders_bits d)

-- version 0010, expander count less 1, six zero bits, the expanders
unfoldable pub card_bits : Domain → List ℕ
card_bits d = number_bits 4 2 ++ (number_bits 6 (length d - 1) ++ (number_bits 6 0 ++ expanders_bits d))

-- the card of a domain: zero bits fill the last byte
abbrev pub card_of : Domain → List ℕ
card_of d = packed (card_bits d)

-- how many bits they take: `size-card` (proofs/CardRoundTrip). A phy takes the most where something is attached: a bit, type, attribute, address and phy
abbrev pub most_phy_size : ℕ
most_phy_size = 78

-- an expander's address, R, configurable and phys less 1
abbrev pub head_size : ℕ
head_size = 88

abbrev pub present_size : Bool → ℕ
present_size true = 6
present_size false = most_phy_size

abbrev pub phy_size : Phy → ℕ
phy_size (Vacant result) = 9
phy_size (Present f) = present_size (eqb f.device_type 0)

unfoldable pub phys_size : List Phy → ℕ
phys_size [] = 0
phys_size (φ ∷ φs) = phy_size φ + phys_size φs

unfoldable pub expanders_size : Domain → ℕ
expanders_size [] = 0
expanders_size (e ∷ d) = head_size + (phys_size e.phys + expanders_size d)

abbrev pub card_size : Domain → ℕ
card_size d = 16 + expanders_size d

-- the most that the phys of an expander take, and a card
abbrev pub most_phys_size : ℕ
most_phys_size = most_phy_size * most_phys

abbrev pub most_card_size : ℕ
most_card_size = 16 + (head_size + most_phys_size) * most_expanders

-- back: any row of bits has a domain, where bits past the end are 0; types above 3 and attribute 3 are kept
abbrev pub present_on : Bool → List ℕ → PhyFields
present_on true l = record { device_type = field 3 (drop 1 l); attribute = field 2 (drop 4 l); address = 0; attached_phy = record { 0 = 0 } }
present_on false l =
    record { device_type = field 3 (drop 1 l); attribute = field 2 (drop 4 l); address = field 64 (drop 6 l); attached_phy = record { 0 = field 8 (drop 70 l) } }

abbrev pub phy_by : Bool → List ℕ → Phy
phy_by true l = Vacant (field 8 (drop 1 l))
phy_by false l = Present (present_on (eqb (field 3 (drop 1 l)) 0) l)

unfoldable pub phy_on : List ℕ → Phy
phy_on l = phy_by (eqb (field 1 l) 0) l

unfoldable pub phys_on : ℕ → List ℕ → List Phy
phys_on zero l = []
phys_on (suc count) l = phy_on l ∷ phys_on count (drop (phy_size (phy_on l)) l)

abbrev pub unit_on : List ℕ → ExpanderUnit
unit_on l = record { address = field 64 l; route_indexes = field 16 (drop 64 l); phys = suc (field 7 (drop 81 l)); configurable = field 1 (drop 80 l) }

unfoldable pub expander_on : List ℕ → Expander
expander_on l = expander_of (unit_on l) (phys_on (suc (field 7 (drop 81 l))) (drop head_size l))

unfoldable pub expanders_on : ℕ → List ℕ → Domain
expanders_on zero l = []
expanders_on (suc count) l = expander_on l ∷ expanders_on count (drop (head_size + phys_size (expander_on l).phys) l)

unfoldable pub domain_on : List ℕ → Domain
domain_on l = expanders_on (suc (field 6 (drop 4 l))) (drop 16 l)
