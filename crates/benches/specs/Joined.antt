-- Two domains on one bench (document 02, paper 12): the first's expanders, then the second's, and one cable between two subtractive phys.
use Rattle.std.specs.Prelude.{ℕ, ◌++◌}
use Rattle.files.specs.declared.Phy.{Phy}
use Rattle.files.specs.declared.Phy.TheVariants.{Present}
use Rattle.files.specs.Domain.{Domain, expander_at}
use Rattle.files.specs.PhyReplaced.{set_phy}

-- a subtractive phy cabled to phy q of the expander with address s: type 2, far address, far phy
abbrev pub cabled_to : ℕ → ℕ → Phy
cabled_to s q = Present (record { device_type = 2; attribute = 1; address = s; attached_phy = record { 0 = q } })

-- "the joined file holds the first's expanders, then the second's": phy p of expander i of the first, and phy q of expander j of the second,
-- each by its own file's numbers, have the cable
unfoldable pub joined : Domain → ℕ → ℕ → Domain → ℕ → ℕ → Domain
joined d₁ i p d₂ j q =
    set_phy d₁ i p (cabled_to (expander_at d₂ j).address q) ++ set_phy d₂ j q (cabled_to (expander_at d₁ i).address p)
