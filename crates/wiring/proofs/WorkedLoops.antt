-- Worked examples: expanders cabled to themselves pass causes 7 to 10, and neighbour themselves.
use Prim.Native.Nat.{ℕ}
use mathlib.Core.Path.{◌≡◌, refl}
use mathlib.Core.List.{List, [], ◌∷◌}
use lib.Count.{ones, ones_in}
use Rattle.frames.specs.Refusals.{refused, good, refusal}
use Rattle.files.specs.declared.Phy.{Phy}
use Rattle.files.specs.declared.Phy.TheVariants.{Present}
use Rattle.files.specs.Lists.{numbers, any, keep, is_in}
use Rattle.files.specs.Domain.{Domain, number_of}
use Rattle.wiring.specs.phys.PhyCauses.{unanswered, end_at, claimed, clash, clashing, fixed, phy_places, places_from, first_in, wired_domain}
use Rattle.wiring.specs.graph.Graph.{strip, reach}
use Rattle.wiring.specs.graph.Neighbours.{cabled, neighbours, set_of, neighbour_word, neighbour_words, bits_in}
use Rattle.wiring.specs.graph.LinkCauses.{unlooped, joined, joined_in, linked_domain}

-- one expander with address 1: a subtractive phy at its own address, with this far phy
abbrev self : ℕ → Phy
self attached_phy = Present (record { device_type = 2; attribute = 1; address = 1; attached_phy = record { 0 = attached_phy } })

abbrev bench : List Phy → Domain
bench φs = record { address = 1; route_indexes = 0; configurable = 0; phys = φs } ∷ []

-- a domain passes 7 to 10, has one bit in all, its own, and is a loop
abbrev SelfCabled : Domain → Type 0
SelfCabled d =
    (wired_domain d ≡ good d) × ((neighbour_words d ≡ 1 ∷ []) × ((bits_in (neighbour_words d) ≡ 1) × ((chain : ℕ) → linked_domain chain d ≡ refused (refusal 11 0 0))))

-- a phy that names itself, and two phys that name each other
pub self-cabled : SelfCabled (bench (self 0 ∷ [])) × SelfCabled (bench (self 1 ∷ self 0 ∷ []))
unfolding numbers any keep is_in number_of unanswered end_at claimed clash clashing fixed phy_places places_from first_in wired_domain strip reach cabled
    neighbours set_of neighbour_word neighbour_words bits_in unlooped joined joined_in linked_domain ones ones_in
self-cabled = ((refl, (refl, (refl, λ chain. refl))), (refl, (refl, (refl, λ chain. refl))))
