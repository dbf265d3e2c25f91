-- What the answers of the unit readers say in document 01's terms.
use Rattle.std.specs.Prelude.{ℕ, List}
use Rattle.frames.specs.Refusals.{Result, refused, good, then}
use Rattle.files.specs.declared.Setting.{Setting}
use Rattle.files.specs.declared.ExpanderUnit.{ExpanderUnit}
use Rattle.files.specs.declared.Phy.{Phy}
use Rattle.files.specs.File.{parsed, phy_units, expander_unit}
use Rattle.files.specs.declared.Parsed.{Parsed}

-- the place after the phys
abbrev pub phys_next : Result (Parsed (List Phy)) → Result ℕ
phys_next (refused r) = refused r
phys_next (good φs) = good φs.next

module _ {A : Type 0} where
  -- read, with the place after it
  abbrev pub ends_at : ℕ → A → Result (Parsed A)
  ends_at next a = good (parsed a next)

-- an expander's unit, and the place after its phys
unfoldable pub expander_checked : Setting → List ℕ → List ℕ → ℕ → ℕ → Result (Parsed ExpanderUnit)
expander_checked most file used i at =
    then (expander_unit most file used i at) (λ u.
    then (phys_next (phy_units file u.value.address i u.value.phys 0 u.next)) (λ next.
    good (parsed u.value next)))
