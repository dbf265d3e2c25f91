-- Cause 9 by the lowest phy with the same address, and the subtractive phys below a phy.
use Rattle.std.specs.Prelude.{ℕ, Bool, not, ◌&&◌, eqb}
use Rattle.files.specs.declared.Phy.{Phy}
use Rattle.files.specs.Domain.{address_of, attached, is_subtractive}

-- attached and subtractive
abbrev pub subtractive : Phy → Bool
subtractive φ = attached φ && is_subtractive φ

-- attached and subtractive, with another address than s
abbrev pub leads_elsewhere : ℕ → Phy → Bool
leads_elsewhere s φ = subtractive φ && not (eqb (address_of φ) s)
