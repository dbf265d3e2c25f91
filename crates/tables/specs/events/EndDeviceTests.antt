-- What tests a domain again after a drive was plugged or pulled: an end device with one address, and whether a search found something.
use Rattle.std.specs.Prelude.{ℕ, Bool, true, false, ◌&&◌, eqb}
use Rattle.files.specs.declared.Phy.{Phy}
use Rattle.frames.specs.Refusals.{Result, refused, good}
use Rattle.files.specs.Domain.{Domain, phy_at, address_of, to_end}

-- a phy attached to an end device with address s
abbrev pub is_end : ℕ → Phy → Bool
is_end s φ = to_end φ && eqb (address_of φ) s

-- phy p of expander i is attached to an end device with address s
unfoldable pub ends_at : ℕ → Domain → ℕ → ℕ → Bool
ends_at s d i p = is_end s (phy_at d i p)

-- the answer of a search that found a phy
abbrev pub is_found : Result Unit → Bool
is_found (refused r) = true
is_found (good tt) = false
