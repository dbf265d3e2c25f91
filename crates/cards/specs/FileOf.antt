-- The file of a domain: short frames, in which every byte and bit that reading ignores is zero.
use Rattle.std.specs.Prelude.{ℕ, ◌+◌, List, [], ◌∷◌, ◌++◌, length}
use Rattle.frames.specs.Bytes.{bytes_of}
use Rattle.cards.specs.ShortFrames.{short_general, short_vacant, short_discover}
use Rattle.frames.specs.declared.General.{General}
use Rattle.frames.specs.declared.Discover.{Discover}
use Rattle.frames.specs.Sizes.{short_size}
use Rattle.frames.specs.declared.Response.TheVariants.{ReportGeneral}
use Rattle.files.specs.declared.Phy.{Phy}
use Rattle.files.specs.declared.Phy.TheVariants.{Vacant, Present}
use Rattle.files.specs.declared.PhyFields.{PhyFields}
use Rattle.files.specs.Domain.{Expander, Domain}

-- the fields of an expander's REPORT GENERAL response
abbrev pub general_of : Expander → General
general_of e = record { route_indexes = e.route_indexes; phys = length e.phys; configurable = e.configurable }

-- the fields of the DISCOVER response of phy p of the expander with address `own_address`
abbrev pub discover_of : ℕ → ℕ → PhyFields → Discover
discover_of own_address p f =
    record { identifier = record { 0 = p }; device_type = f.device_type; own_address = own_address; attached_address = f.address; attached_phy = f.attached_phy; attribute = f.attribute }

abbrev pub phy_frame : ℕ → ℕ → Phy → List ℕ
phy_frame own_address p (Vacant result) = short_vacant result
phy_frame own_address p (Present f) = short_discover (discover_of own_address p f)

unfoldable pub phys_frames : ℕ → ℕ → List Phy → List ℕ
phys_frames own_address p [] = []
phys_frames own_address p (φ ∷ φs) = phy_frame own_address p φ ++ phys_frames own_address (p + 1) φs

-- how many bytes stand before the frames of an expander's phys: its address and a short REPORT GENERAL response
abbrev pub head_bytes : ℕ
head_bytes = 8 + short_size ReportGeneral

-- an expander's address and its REPORT GENERAL response
unfoldable pub unit_head : Expander → List ℕ
unit_head e = bytes_of 8 e.address ++ short_general (general_of e)

unfoldable pub units_of : Domain → List ℕ
units_of [] = []
units_of (e ∷ d) = unit_head e ++ (phys_frames e.address 0 e.phys ++ units_of d)

-- the header, then the units: `file-back` (proofs/Conversions) reads it as the domain
unfoldable pub file_of : Domain → List ℕ
file_of d = 0x10 ∷ length d ∷ units_of d
