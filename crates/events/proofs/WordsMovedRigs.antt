-- Document 02, paper 10, worked by computing: a rig on which the bound is reached, and why the paper says "direct".
use Prim.Native.Nat.{ℕ}
use mathlib.Core.Path.{◌≡◌, refl}
use mathlib.Core.List.{[], ◌∷◌, flat_map}
use lib.ListN.{length}
use Rattle.frames.specs.Bits.{number_bits, field, bits_of, packed_in}
use Rattle.frames.specs.Refusals.{good}
use Rattle.files.specs.declared.Phy.{Phy}
use Rattle.files.specs.declared.Phy.TheVariants.{Present}
use Rattle.files.specs.Domain.{Domain}
use Rattle.files.specs.PhyReplaced.{with_phy, set_phy}
use Rattle.tables.proofs.WorkedDefinitions.{numbers, any, keep, is_in, number_of, unanswered, end_at, claimed, clash, clashing, fixed, phy_places, places_from, first_in, wired_domain, strip, reach, cabled, neighbours, chains_within, unlong, unlooped, joined, joined_in, linked_domain}
use Rattle.tables.specs.levels.Levels.{each_once, downstream_of_phys, downstream, next_level, levels_from, levels}
use Rattle.tables.specs.filling.Tables.{address_at, gives, give, give_all, level_list, table, table_places, tables, size}
use Rattle.tables.specs.filling.Entries.{Entries, entries}
use Rattle.tables.specs.JudgingCall.{overlong, judged_domain}
use Rattle.tables.specs.events.TouchedTables.{touched, renewed, refilled, moved}
use Rattle.tables.specs.filling.WordsChanged.{changed}
use Rattle.events.specs.declared.Event.{Event}
use Rattle.events.specs.Events.{edited}
use Rattle.events.specs.WordsMoved.{table_links}

-- attached device type, routing attribute, attached address, attached phy
abbrev phy : ℕ → ℕ → ℕ → ℕ → Phy
phy type attribute address attached_phy = Present (record { device_type = type; attribute = attribute; address = address; attached_phy = record { 0 = attached_phy } })

abbrev event : ℕ → ℕ → ℕ → Event
event e p a = record { expander = record { 0 = e }; phy = record { 0 = p }; address = a }

-- a row of three, with a wide link of two phys above, and a drive at each: 11, 12 and 13
pub bench : Domain
bench =
    record { address = 1; route_indexes = 3; configurable = 1; phys = phy 2 2 2 0 ∷ phy 2 2 2 1 ∷ phy 1 0 11 0 ∷ [] }
    ∷ record { address = 2; route_indexes = 1; configurable = 1; phys = phy 2 1 1 0 ∷ phy 2 1 1 1 ∷ phy 1 0 12 0 ∷ phy 2 2 3 0 ∷ [] }
    ∷ record { address = 3; route_indexes = 0; configurable = 0; phys = phy 2 1 2 3 ∷ phy 1 0 13 0 ∷ [] }
    ∷ []

pub bench_tables : Entries
bench_tables = entries (12 ∷ 3 ∷ 13 ∷ 12 ∷ 3 ∷ 13 ∷ 13 ∷ []) (0 ∷ [])

-- 13 is pulled: it stood in every table, so as many words change as there are table phys attached to expanders
pub bound_reached : (judged_domain 3 (edited bench (event 2 1 0)) ≡ good (edited bench (event 2 1 0)))
    × (tables bench ≡ bench_tables.words)
    × (moved (edited bench (event 2 1 0)) 2 bench_tables (refilled (edited bench (event 2 1 0)) 2 bench_tables) ≡ record { table_count = 3; word_count = 3 })
    × (length (table_links bench) ≡ 3)
unfolding bench bench_tables numbers any keep is_in number_of unanswered end_at claimed clash clashing fixed phy_places places_from first_in wired_domain
    strip reach cabled neighbours unlooped joined joined_in chains_within unlong linked_domain each_once downstream_of_phys downstream next_level levels_from levels flat_map
    address_at gives give give_all level_list overlong judged_domain table table_places tables size
    with_phy set_phy touched renewed changed table_links number_bits field bits_of packed_in
bound_reached = (refl, refl, refl, refl)

-- two expanders; phy 1 of the second is a table phy, and empty
pub mixed : Domain
mixed =
    record { address = 1; route_indexes = 3; configurable = 1; phys = phy 2 2 2 0 ∷ [] }
    ∷ record { address = 2; route_indexes = 1; configurable = 1; phys = phy 2 1 1 0 ∷ phy 0 2 0 0 ∷ phy 1 0 12 0 ∷ phy 1 0 13 0 ∷ [] }
    ∷ []

pub mixed_tables : Entries
mixed_tables = entries (12 ∷ 13 ∷ 0 ∷ 0 ∷ []) (0x30 ∷ [])

-- 14 is plugged there: the list of the first gets longer, so that 12 and 13 move, and more words change than table phys are attached to expanders
pub table-phy_moves : (judged_domain 2 (edited mixed (event 1 1 14)) ≡ good (edited mixed (event 1 1 14)))
    × (tables mixed ≡ mixed_tables.words)
    × (level_list mixed 0 0 ≡ 12 ∷ 13 ∷ [])
    × (level_list (edited mixed (event 1 1 14)) 0 0 ≡ 14 ∷ 12 ∷ 13 ∷ [])
    × (moved (edited mixed (event 1 1 14)) 1 mixed_tables (refilled (edited mixed (event 1 1 14)) 1 mixed_tables) ≡ record { table_count = 1; word_count = 3 })
    × (length (table_links mixed) ≡ 1)
unfolding mixed mixed_tables numbers any keep is_in number_of unanswered end_at claimed clash clashing fixed phy_places places_from first_in wired_domain
    strip reach cabled neighbours unlooped joined joined_in chains_within unlong linked_domain each_once downstream_of_phys downstream next_level levels_from levels flat_map
    address_at gives give give_all level_list overlong judged_domain table table_places tables size
    with_phy set_phy touched renewed changed table_links number_bits field bits_of packed_in
table-phy_moves = (refl, refl, refl, refl, refl, refl)
