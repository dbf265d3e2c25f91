-- Document 02, paper 11, worked by computing: a row of three where a request ends in BAD DESTINATION after the strike, and a wide link where
-- striking one table alone leaves the request arriving.
use Prim.Native.Nat.{ℕ}
use mathlib.Core.Path.{◌≡◌, refl}
use mathlib.Core.List.{List, [], ◌∷◌, flat_map}
use Rattle.tables.specs.WiringDefinitions.{bits_of, number_bits, field, packed_in, marked, Phy, Present, good, Domain}
use Rattle.tables.proofs.WorkedDefinitions.{numbers, any, keep, is_in, number_of, unanswered, end_at, claimed, clash, clashing, fixed, phy_places, places_from, first_in, wired_domain, strip, reach, cabled, neighbours, chains_within, unlong, unlooped, joined, joined_in, linked_domain}
use Rattle.tables.specs.levels.Levels.{each_once, downstream_of_phys, downstream, next_level, levels_from, levels}
use Rattle.tables.specs.filling.Tables.{address_at, gives, give, give_all, level_list, table, table_places, tables, size, sizes, offset_in, stretch}
use Rattle.tables.specs.filling.Entries.{Entries, entries, room_of, counted_by}
use Rattle.tables.specs.JudgingCall.{overlong, judged_domain, judged_tables, tables_after}
use Rattle.tracing.specs.Steps.{pick, subtractively, by_table, directly, step}
use Rattle.tracing.specs.Trace.{Request, request, after_step, trace_from, traced, allowed, requested, traced_request, judged_request}
use Rattle.tracing.specs.StruckEntries.{struck, zeroed, with_set, disabled}
use Rattle.tracing.specs.declared.Outcome.{Outcome}
use Rattle.tracing.specs.declared.Outcome.TheVariants.{Arrived, NoDestination, BadDestination}

-- attached device type, routing attribute, attached address, attached phy
abbrev phy : ℕ → ℕ → ℕ → ℕ → Phy
phy type attribute address attached_phy = Present (record { device_type = type; attribute = attribute; address = address; attached_phy = record { 0 = attached_phy } })

-- the table call on a domain, with as much room as these entries have, leaves these entries
abbrev TablesFilled : Domain → Entries → Entries → Type 0
TablesFilled d lent filled = tables_after (judged_tables 3 d (room_of lent)) lent ≡ filled

-- the trace call on a domain over these entries, with three bytes lent, answers so
abbrev Ends : Domain → Entries → Request → Outcome → ℕ → ℕ → List ℕ → Type 0
Ends d t q outcome last phy passed = judged_request 3 d t 3 q ≡ good (record { outcome = outcome; last = last; phy = phy; passed = passed })

-- expanders with addresses 1 to 3, each cabled down to the next, and a drive at each with 11, 12 and 13
pub row : Domain
row =
    record { address = 1; route_indexes = 3; configurable = 1; phys = phy 2 2 2 0 ∷ phy 1 0 11 0 ∷ [] }
    ∷ record { address = 2; route_indexes = 2; configurable = 1; phys = phy 2 1 1 0 ∷ phy 1 0 12 0 ∷ phy 2 2 3 0 ∷ [] }
    ∷ record { address = 3; route_indexes = 0; configurable = 0; phys = phy 2 1 2 2 ∷ phy 1 0 13 0 ∷ [] }
    ∷ []

-- its tables: of phy 0 of the first, and of phy 2 of the second, whose only address is 13
pub row_tables : Entries
row_tables = entries (12 ∷ 3 ∷ 13 ∷ 13 ∷ 0 ∷ []) (0x08 ∷ [])

-- the second expander asks for 13, and so does its drive, by phy 1. Struck from the table of its phy 2, the request goes up to the first,
-- whose entry leads back: BAD DESTINATION
pub struck-row : TablesFilled row (entries (7 ∷ 7 ∷ 7 ∷ 7 ∷ 7 ∷ []) (0xff ∷ [])) row_tables
    × (Ends row row_tables (request 1 255 13) Arrived 2 1 (1 ∷ 2 ∷ [])
    × ((zeroed row 1 2 13 row_tables ≡ entries (12 ∷ 3 ∷ 13 ∷ 0 ∷ 0 ∷ []) (0x08 ∷ []))
    × ((disabled row 1 2 13 row_tables ≡ entries (12 ∷ 3 ∷ 13 ∷ 13 ∷ 0 ∷ []) (0x18 ∷ []))
    × (Ends row (zeroed row 1 2 13 row_tables) (request 1 255 13) BadDestination 0 255 (1 ∷ 0 ∷ [])
    × (Ends row (disabled row 1 2 13 row_tables) (request 1 255 13) BadDestination 0 255 (1 ∷ 0 ∷ [])
    × (Ends row (zeroed row 1 2 13 row_tables) (request 1 1 13) BadDestination 0 255 (1 ∷ 0 ∷ [])
    × Ends row (disabled row 1 2 13 row_tables) (request 1 1 13) BadDestination 0 255 (1 ∷ 0 ∷ [])))))))
unfolding row row_tables numbers any keep is_in number_of unanswered end_at claimed clash clashing fixed phy_places places_from first_in wired_domain
    strip reach cabled neighbours unlooped joined joined_in chains_within unlong linked_domain each_once downstream_of_phys downstream next_level levels_from levels flat_map
    address_at gives give give_all level_list overlong judged_domain table table_places tables marked bits_of number_bits field packed_in counted_by
    pick offset_in size sizes stretch subtractively by_table directly step after_step trace_from traced allowed requested traced_request judged_request struck with_set
struck-row = (refl, (refl, (refl, (refl, (refl, (refl, (refl, refl)))))))

-- two expanders, 1 and 2, joined by a wide link of two phys, and a drive 12 at the second
pub wide_link : Domain
wide_link =
    record { address = 1; route_indexes = 2; configurable = 1; phys = phy 2 2 2 0 ∷ phy 2 2 2 1 ∷ [] }
    ∷ record { address = 2; route_indexes = 0; configurable = 0; phys = phy 2 1 1 0 ∷ phy 2 1 1 1 ∷ phy 1 0 12 0 ∷ [] }
    ∷ []

pub wide_tables : Entries
wide_tables = entries (12 ∷ 0 ∷ 12 ∷ 0 ∷ []) (0x50 ∷ [])

-- with 12 struck from the table of phy 0 alone, as a zeroed word or as a set bit, the request goes on by phy 1 and arrives. Struck from the
-- tables of both phys it does not
pub struck-wide : TablesFilled wide_link (entries (7 ∷ 7 ∷ 7 ∷ 7 ∷ []) (0xff ∷ [])) wide_tables
    × (Ends wide_link (entries (0 ∷ 0 ∷ 12 ∷ 0 ∷ []) (0x50 ∷ [])) (request 0 255 12) Arrived 1 2 (0 ∷ 1 ∷ [])
    × (Ends wide_link (entries (12 ∷ 0 ∷ 12 ∷ 0 ∷ []) (0xd0 ∷ [])) (request 0 255 12) Arrived 1 2 (0 ∷ 1 ∷ [])
    × ((zeroed wide_link 0 0 12 wide_tables ≡ entries (0 ∷ 0 ∷ 0 ∷ 0 ∷ []) (0x50 ∷ []))
    × ((disabled wide_link 0 0 12 wide_tables ≡ entries (12 ∷ 0 ∷ 12 ∷ 0 ∷ []) (0xf0 ∷ []))
    × (Ends wide_link (zeroed wide_link 0 0 12 wide_tables) (request 0 255 12) NoDestination 0 255 (0 ∷ [])
    × Ends wide_link (disabled wide_link 0 0 12 wide_tables) (request 0 255 12) NoDestination 0 255 (0 ∷ []))))))
unfolding wide_link wide_tables numbers any keep is_in number_of unanswered end_at claimed clash clashing fixed phy_places places_from first_in wired_domain
    strip reach cabled neighbours unlooped joined joined_in chains_within unlong linked_domain each_once downstream_of_phys downstream next_level levels_from levels flat_map
    address_at gives give give_all level_list overlong judged_domain table table_places tables marked bits_of number_bits field packed_in counted_by
    pick offset_in size sizes stretch subtractively by_table directly step after_step trace_from traced allowed requested traced_request judged_request struck with_set
struck-wide = (refl, (refl, (refl, (refl, (refl, (refl, refl))))))
