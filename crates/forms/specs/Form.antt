-- The compact form of a domain: 64-bit words, two for each expander and two for each of its phys; and back.
use Rattle.std.specs.Prelude.{ℕ, zero, suc, ◌+◌, ◌*◌, ◌/◌, ◌%◌, min, Bool, true, false, cond, List, [], ◌∷◌, ◌++◌, length, get_or, drop, eqb, leb, ◌≡◌}
use Rattle.files.specs.declared.Phy.{Phy}
use Rattle.files.specs.declared.Phy.TheVariants.{Vacant, Present}
use Rattle.files.specs.declared.PhyFields.{PhyFields}
use Rattle.files.specs.Domain.{Expander, Domain, address_of, number_of, expander_at}
use Rattle.files.specs.Settings.{most_phys, most_expanders}
use Rattle.std.proofs.lemmas.List.Edits.{sets}

-- an expander's second word, from the top: R (16 bits), phy count (8), zeros
abbrev pub head_field : ℕ → ℕ → ℕ
head_field route_indexes phys = 1099511627776 * (phys + 256 * route_indexes)

-- a phy's second word, from the top: vacant bit, type (2 bits), attribute (2), attached expander (6), attached phy (8), zeros
abbrev pub phy_field : ℕ → ℕ → ℕ → ℕ → ℕ → ℕ
phy_field vacant type attribute expander attached_phy = 35184372088832 * (attached_phy + 256 * (expander + 64 * (attribute + 4 * (type + 4 * vacant))))

-- the number of the attached expander; 0 where the phy is attached to none
abbrev pub attached_number : Domain → PhyFields → ℕ
attached_number d f = cond (leb 2 f.device_type) (number_of d f.address) 0

abbrev pub form_phy : Domain → Phy → ℕ
form_phy d (Vacant result) = phy_field 1 0 0 0 0
form_phy d (Present f) = phy_field 0 f.device_type f.attribute (attached_number d f) f.attached_phy.0

-- for each phy its attached address, and a word with its other fields
abbrev pub form_phys : Domain → List Phy → List ℕ
form_phys d [] = []
form_phys d (φ ∷ φs) = address_of φ ∷ form_phy d φ ∷ form_phys d φs

-- for each expander its address, a word with R and phy count, and its phys
unfoldable pub form_expanders : Domain → Domain → List ℕ
form_expanders d [] = []
form_expanders d (e ∷ es) = e.address ∷ head_field e.route_indexes (length e.phys) ∷ (form_phys d e.phys ++ form_expanders d es)

-- the form of a domain
unfoldable pub form_of : Domain → List ℕ
form_of d = form_expanders d d

-- back: any words are a domain, of at most 64 expanders with at most 128 phys each. Words past the end are 0. What a form leaves out
-- (configurable bits and the results of vacant phys) is 1; where nothing is attached, address and attached phy are 0
abbrev pub fields_back : Bool → ℕ → ℕ → PhyFields
fields_back true address v = record { device_type = v / 65536 % 4; attribute = v / 16384 % 4; address = 0; attached_phy = record { 0 = 0 } }
fields_back false address v = record { device_type = v / 65536 % 4; attribute = v / 16384 % 4; address = address; attached_phy = record { 0 = v % 256 } }

abbrev pub phy_by : Bool → ℕ → ℕ → Phy
phy_by true address v = Vacant 1
phy_by false address v = Present (fields_back (eqb (v / 65536 % 4) 0) address v)

-- v are the used bits of the second word
abbrev pub phy_back : ℕ → ℕ → Phy
phy_back address v = phy_by (eqb (v / 262144 % 2) 1) address v

unfoldable pub phys_back : ℕ → List ℕ → List Phy
phys_back zero ws = []
phys_back (suc count) ws = phy_back (get_or ws 0 0) (get_or ws 1 0 / 35184372088832) ∷ phys_back count (drop 2 ws)

abbrev pub count_in : List ℕ → ℕ
count_in ws = min most_phys (get_or ws 1 0 / 1099511627776 % 256)

unfoldable pub expander_back : List ℕ → Expander
expander_back ws =
    record {
      address = get_or ws 0 0;
      route_indexes = get_or ws 1 0 / 281474976710656 % 65536;
      configurable = 1;
      phys = phys_back (count_in ws) (drop 2 ws);
    }

unfoldable pub expanders_back : ℕ → List ℕ → Domain
expanders_back zero ws = []
expanders_back (suc room) [] = []
expanders_back (suc room) (w ∷ ws) = expander_back (w ∷ ws) ∷ expanders_back room (drop (2 + 2 * count_in (w ∷ ws)) (w ∷ ws))

unfoldable pub form_in : List ℕ → Domain
form_in ws = expanders_back most_expanders ws

-- the words of expander i's phys stored from `at` on, and the place after them
abbrev pub FormPhysPut : Domain → ℕ → List ℕ → List ℕ → ℕ → ℕ → Type 0
FormPhysPut d i before after at r = (after ≡ sets before at (form_phys d (expander_at d i).phys)) × (r ≡ at + 2 * length (expander_at d i).phys)
