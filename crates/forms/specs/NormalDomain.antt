-- What a form leaves out of a domain.
use Rattle.std.specs.Prelude.{ℕ, map}
use Rattle.files.specs.declared.Phy.{Phy}
use Rattle.files.specs.declared.Phy.TheVariants.{Vacant, Present}
use Rattle.files.specs.Domain.{Expander, Domain}

-- a vacant phy's function result; here it is the given one
abbrev pub normal_phy : ℕ → Phy → Phy
normal_phy v (Vacant result) = Vacant v
normal_phy v (Present f) = Present f

-- and the configurable bit; here it is 1
abbrev pub normal_expander : ℕ → Expander → Expander
normal_expander v e = record { address = e.address; route_indexes = e.route_indexes; configurable = 1; phys = map (normal_phy v) e.phys }

abbrev pub normal_with : ℕ → Domain → Domain
normal_with v d = map (normal_expander v) d

-- the domain that a form reads as, where it is the form of d: `form-normal-back` (proofs/FormRoundTrip)
abbrev pub normal : Domain → Domain
normal d = normal_with 1 d
