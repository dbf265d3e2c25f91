-- A row of three expanders whose second cable joins two table phys (document 02, paper 3), worked by computing.
use Prim.Native.Nat.{ℕ}
use mathlib.Core.Path.{◌≡◌, refl}
use mathlib.Core.List.{List, [], ◌∷◌, flat_map}
use Rattle.tables.specs.WiringDefinitions.{Phy, Present, good, Domain}
use Rattle.tables.proofs.WorkedDefinitions.{numbers, any, keep, is_in, number_of, unanswered, end_at, claimed, clash, clashing, fixed, phy_places, places_from, first_in, wired_domain, strip, reach, cabled, neighbours, chains_within, unlong, unlooped, joined, joined_in, linked_domain}
use Rattle.tables.specs.levels.Levels.{each_once, downstream_of_phys, downstream, next_level, levels_from, levels}
use Rattle.tables.specs.filling.Tables.{address_at, gives, give, give_all, level_list, table, table_places, tables, size, offset_in, stretch}
use Rattle.tables.specs.JudgingCall.{overlong, judged_domain}
use Rattle.tracing.specs.Steps.{pick, subtractively, by_table, directly, step}
use Rattle.tracing.specs.Trace.{Request, request, after_step, trace_from, traced}
use Rattle.tracing.specs.declared.Outcome.{Outcome}
use Rattle.tracing.specs.declared.Outcome.TheVariants.{Arrived, NoDestination}

-- attached device type, routing attribute, attached address, attached phy
abbrev phy : ℕ → ℕ → ℕ → ℕ → Phy
phy type attribute address attached_phy = Present (record { device_type = type; attribute = attribute; address = address; attached_phy = record { 0 = attached_phy } })

-- expanders with addresses 1 to 3, a drive at each with 11, 12 and 13; phy 2 of the second and phy 0 of the third are table phys
pub row : Domain
row =
    record { address = 1; route_indexes = 3; configurable = 1; phys = phy 2 2 2 0 ∷ phy 1 0 11 0 ∷ [] }
    ∷ record { address = 2; route_indexes = 2; configurable = 1; phys = phy 2 1 1 0 ∷ phy 1 0 12 0 ∷ phy 2 2 3 0 ∷ [] }
    ∷ record { address = 3; route_indexes = 1; configurable = 1; phys = phy 2 2 2 2 ∷ phy 1 0 13 0 ∷ [] }
    ∷ []

-- the tables of its three table phys, one after the other
pub words : List ℕ
words = 12 ∷ 3 ∷ 0 ∷ 0 ∷ 0 ∷ 0 ∷ []

abbrev Ends : Request → Outcome → ℕ → ℕ → List ℕ → Type 0
Ends q outcome last phy passed = traced row words q ≡ record { outcome = outcome; last = last; phy = phy; passed = passed }

-- it is accepted where a chain may have three expanders; the levels of the first's table phy end before the third, whose address is
-- entered, and its drive's is not; the two table phys that are cabled together have empty lists. Over these tables the third expander is
-- reached across the cable from the first, as its address is entered there. Its drive, though a chain leads to it, is not, nor is the first
-- expander from the third. Requests that do not cross end as in the mission
pub crossed : (judged_domain 3 row ≡ good row)
    × ((levels row 0 0 ≡ 1 ∷ []) × ((level_list row 0 0 ≡ 12 ∷ 3 ∷ []) × ((level_list row 1 2 ≡ []) × ((level_list row 2 0 ≡ [])
    × ((tables row ≡ words)
    × (Ends (request 0 255 3) Arrived 2 255 (0 ∷ 1 ∷ 2 ∷ [])
    × (Ends (request 0 255 13) NoDestination 0 255 (0 ∷ [])
    × (Ends (request 1 255 13) NoDestination 0 255 (1 ∷ 0 ∷ [])
    × (Ends (request 2 255 1) NoDestination 2 255 (2 ∷ [])
    × (Ends (request 0 255 12) Arrived 1 1 (0 ∷ 1 ∷ [])
    × (Ends (request 1 255 11) Arrived 0 1 (1 ∷ 0 ∷ [])
    × Ends (request 0 255 99) NoDestination 0 255 (0 ∷ []))))))))))))
unfolding row words numbers any keep is_in number_of unanswered end_at claimed clash clashing fixed phy_places places_from first_in wired_domain
    strip reach cabled neighbours unlooped joined joined_in chains_within unlong linked_domain each_once downstream_of_phys downstream next_level levels_from levels flat_map
    address_at gives give give_all level_list overlong judged_domain table table_places tables
    pick offset_in size stretch subtractively by_table directly step after_step trace_from traced
crossed = (refl, (refl, (refl, (refl, (refl, (refl, (refl, (refl, (refl, (refl, (refl, (refl, refl))))))))))))
