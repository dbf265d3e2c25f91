-- Worked examples of 07-300r1: tables 3 and 4, on figure 50 with two expanders below E0 and two drives at each.
use Prim.Native.Nat.{ℕ}
use mathlib.Core.Path.{◌≡◌, refl}
use mathlib.Core.List.{[], ◌∷◌, flat_map}
use Rattle.files.specs.declared.Phy.{Phy}
use Rattle.files.specs.declared.Phy.TheVariants.{Vacant, Present}
use Rattle.wiring.specs.FrameDefinitions.{refused, good, refusal}
use Rattle.files.specs.Lists.{numbers, any, keep, is_in}
use Rattle.files.specs.Domain.{Domain, number_of}
use Rattle.wiring.specs.phys.PhyCauses.{unanswered, end_at, claimed, clash, clashing, fixed, phy_places, places_from, first_in, wired_domain}
use Rattle.wiring.specs.graph.Graph.{strip, reach}
use Rattle.wiring.specs.graph.Neighbours.{cabled, neighbours}
use Rattle.wiring.specs.graph.LongChains.{chains_within, unlong}
use Rattle.wiring.specs.graph.LinkCauses.{unlooped, joined, joined_in, linked_domain}
use Rattle.tables.specs.levels.Levels.{each_once, downstream_of_phys, downstream, next_level, levels_from, levels}
use Rattle.tables.specs.filling.Tables.{address_at, gives, give, give_all, level_list, table}
use Rattle.tables.specs.JudgingCall.{overlong, judged_domain}

-- attached device type, routing attribute, attached address, attached phy
abbrev phy : ℕ → ℕ → ℕ → ℕ → Phy
phy type attribute address attached_phy = Present (record { device_type = type; attribute = attribute; address = address; attached_phy = record { 0 = attached_phy } })

-- expanders F, E0, E1, E2 with addresses 1 to 4; drives D11, D12 with 11 and 12 at E1, D21, D22 with 21 and 22 at E2
pub figure50 : Domain
figure50 =
    record { address = 1; route_indexes = 8; configurable = 1; phys = phy 2 2 2 0 ∷ [] }
    ∷ record { address = 2; route_indexes = 4; configurable = 1; phys = phy 3 1 1 0 ∷ phy 2 2 3 0 ∷ phy 2 2 4 0 ∷ [] }
    ∷ record { address = 3; route_indexes = 0; configurable = 0; phys = phy 2 1 2 1 ∷ phy 1 0 11 0 ∷ phy 1 0 12 0 ∷ [] }
    ∷ record { address = 4; route_indexes = 0; configurable = 0; phys = phy 2 1 2 2 ∷ phy 1 0 21 0 ∷ phy 1 0 22 0 ∷ [] }
    ∷ []

-- it is accepted where a chain may have three expanders, and has one of more than two; table 3: E0 phy 1; table 4: F phy 0
pub figure_50 : ((judged_domain 3 figure50 ≡ good figure50) × (judged_domain 2 figure50 ≡ refused (refusal 23 0 0)))
    × ((table figure50 1 1 ≡ 11 ∷ 12 ∷ 0 ∷ 0 ∷ [])
    × (table figure50 0 0 ≡ 3 ∷ 4 ∷ 11 ∷ 12 ∷ 21 ∷ 22 ∷ 0 ∷ 0 ∷ []))
unfolding figure50 numbers any keep is_in number_of unanswered end_at claimed clash clashing fixed phy_places places_from first_in wired_domain
    strip reach cabled neighbours unlooped joined joined_in chains_within unlong linked_domain each_once downstream_of_phys downstream next_level levels_from levels address_at
    gives give give_all level_list table overlong judged_domain flat_map
figure_50 = ((refl, refl), (refl, refl))

-- from figure 50: an empty direct phy gives a disabled entry, a vacant phy none, and each direct phy of a wide drive one
pub figure50' : Domain
figure50' =
    record { address = 1; route_indexes = 4; configurable = 1; phys = phy 2 2 2 0 ∷ [] }
    ∷ record { address = 2; route_indexes = 0; configurable = 0; phys = phy 3 1 1 0 ∷ phy 0 0 9 9 ∷ Vacant 7 ∷ phy 1 0 11 0 ∷ phy 1 0 11 1 ∷ [] }
    ∷ []

pub other-phys : table figure50' 0 0 ≡ 0 ∷ 11 ∷ 11 ∷ 0 ∷ []
unfolding figure50' numbers any keep is_in number_of each_once downstream_of_phys downstream next_level levels_from levels address_at gives give give_all level_list table flat_map
other-phys = refl

-- a comb: three expanders in a row with addresses 1 to 3, a tooth at each with 4 to 6; drives 10 to 12 in the row, 20 to 22 at the teeth
pub comb : Domain
comb =
    record { address = 1; route_indexes = 7; configurable = 1; phys = phy 2 2 2 0 ∷ phy 2 2 4 0 ∷ phy 1 0 10 0 ∷ [] }
    ∷ record { address = 2; route_indexes = 3; configurable = 1; phys = phy 2 1 1 0 ∷ phy 2 2 3 0 ∷ phy 2 2 5 0 ∷ phy 1 0 11 0 ∷ [] }
    ∷ record { address = 3; route_indexes = 1; configurable = 1; phys = phy 2 1 2 1 ∷ phy 2 2 6 0 ∷ phy 1 0 12 0 ∷ [] }
    ∷ record { address = 4; route_indexes = 0; configurable = 0; phys = phy 2 1 1 1 ∷ phy 1 0 20 0 ∷ [] }
    ∷ record { address = 5; route_indexes = 0; configurable = 0; phys = phy 2 1 2 2 ∷ phy 1 0 21 0 ∷ [] }
    ∷ record { address = 6; route_indexes = 0; configurable = 0; phys = phy 2 1 3 1 ∷ phy 1 0 22 0 ∷ [] }
    ∷ []

-- the tooth with 21, at level 2, comes before that with 22, at level 3, though the latter's expander comes before it in level 2
pub level_order : table comb 0 0 ≡ 3 ∷ 5 ∷ 11 ∷ 6 ∷ 12 ∷ 21 ∷ 22 ∷ []
unfolding comb numbers any keep is_in number_of each_once downstream_of_phys downstream next_level levels_from levels address_at gives give give_all level_list table flat_map
level_order = refl
