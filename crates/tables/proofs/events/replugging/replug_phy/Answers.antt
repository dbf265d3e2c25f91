-- replug_phy keeps a vacant phy, and sets the fields of another.
use Prim.Native.Nat.{ℕ}
use Rattle.files.specs.declared.Phy.{Phy}
use Rattle.files.specs.declared.Phy.TheVariants.{Present}

-- a phy with this attribute, attached address and type
abbrev drive : ℕ → ℕ → ℕ → Phy
drive k a n = Present (record { device_type = n; attribute = k; address = a; attached_phy = record { 0 = 0 } })
