-- The conditions of paper 12 on two domains: phys that can take the cable, and no address that is a device's in both.
use Rattle.std.specs.Prelude.{ℕ, T}
use Rattle.files.specs.Domain.{Domain, phy_at, is_subtractive, attached}
use Rattle.wiring.specs.graph.Devices.{Borne}

-- "non-vacant, subtractive and unattached", and its expander has no attached subtractive phy
pub record Free (d : Domain) (i p : ℕ) : Type 0 where
  pub subtractive : T (is_subtractive (phy_at d i p))
  pub unattached : ¬ (T (attached (phy_at d i p)))
  pub no_other : (y : ℕ) → T (attached (phy_at d i y)) → T (is_subtractive (phy_at d i y)) → ⊥

-- all but the limits of the setting
pub record Joinable (d₁ : Domain) (i p : ℕ) (d₂ : Domain) (j q : ℕ) : Type 0 where
  pub first : Free d₁ i p
  pub second : Free d₂ j q
  pub apart : (s : ℕ) → Borne d₁ s → Borne d₂ s → ⊥
