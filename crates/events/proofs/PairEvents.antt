-- Events on the pair rig, by computing the definitions.
use Prim.Native.Nat.{ℕ, ◌+◌, ◌*◌}
use mathlib.Core.Path.{◌≡◌, refl}
use mathlib.Core.List.{List, [], ◌∷◌, ◌++◌, flat_map}
use lib.ListN.{replicate}
use Rattle.frames.specs.Bytes.{number_at, bytes_of}
use Rattle.frames.specs.Bits.{number_bits, field, bits_of, packed_in}
use Rattle.frames.specs.Sizes.{frame_size}
use Rattle.frames.specs.ReportGeneral.{general_fixed, general_read}
use Rattle.frames.specs.Discovery.{discover_fixed, discover_read}
use Rattle.frames.specs.Refusals.{Result, refused, good, refusal}
use Rattle.files.specs.declared.Phy.{Phy}
use Rattle.files.specs.declared.Phy.TheVariants.{Present}
use Rattle.files.specs.Lists.{numbers, any, keep, is_in}
use Rattle.files.specs.Settings.{in_range, widest}
use Rattle.files.specs.Domain.{Domain, number_of}
use Rattle.files.specs.File.{size_at, domain_read, header_unit, expanders, expander_unit, phy_units, phy_unit}
use Rattle.wiring.specs.phys.PhyCauses.{unanswered, end_at, claimed, clash, clashing, fixed, phy_places, places_from, first_in, wired_domain}
use Rattle.wiring.specs.graph.Graph.{strip, reach}
use Rattle.wiring.specs.graph.Neighbours.{cabled, neighbours}
use Rattle.wiring.specs.graph.LongChains.{chains_within, unlong}
use Rattle.wiring.specs.graph.LinkCauses.{unlooped, joined, joined_in, linked_domain}
use Rattle.files.specs.PhyReplaced.{with_phy, set_phy}
use Rattle.tables.specs.levels.Levels.{each_once, downstream_of_phys, downstream, next_level, levels_from, levels}
use Rattle.tables.specs.filling.Tables.{address_at, gives, give, give_all, level_list, table, table_places, size, sizes}
use Rattle.tables.specs.filling.Entries.{Entries, entries, Room, room_of}
use Rattle.tables.specs.JudgingCall.{overlong, judged_domain}
use Rattle.tables.specs.events.TouchedTables.{touched, renewed, refilled, moved}
use Rattle.tables.specs.filling.WordsChanged.{changed}
use Rattle.events.specs.declared.Event.{Event}
use Rattle.events.specs.EventFile.{frame_edited, file_edited}
use Rattle.offsets.specs.Offsets.{phys_after, expanders_after}
use Rattle.events.specs.Calls.{event_call}

-- an address of the rig, by its last byte
abbrev at : ℕ → ℕ
at s = 0x5000000000000000 + s

abbrev phy : ℕ → ℕ → ℕ → Phy
phy type attribute address = Present (record { device_type = type; attribute = attribute; address = address; attached_phy = record { 0 = 0 } })

-- short responses of the rig's fields
abbrev general : ℕ → ℕ → ℕ → List ℕ
general route_indexes phys configurable = 0x41 ∷ 0 ∷ 0 ∷ 0 ∷ 0 ∷ 0 ∷ (bytes_of 2 route_indexes ++ (0 ∷ phys ∷ configurable ∷ replicate 17 0))

abbrev discover : ℕ → ℕ → ℕ → ℕ → ℕ → List ℕ
discover p type own_address attached attribute =
    0x41 ∷ 0x10 ∷ 0 ∷ 0 ∷ 0 ∷ 0 ∷ 0 ∷ 0 ∷ 0 ∷ p ∷ 0 ∷ 0 ∷ type * 16 ∷ 0 ∷ 0 ∷ 0
    ∷ (bytes_of 8 own_address ++ (bytes_of 8 attached ++ (replicate 12 0 ++ (attribute ∷ replicate 7 0))))

-- the rig's file, where B1's phy has this type and address
unfoldable pub pair_file : ℕ → ℕ → List ℕ
pair_file type address =
    0x10 ∷ 2
    ∷ (bytes_of 8 (at 0x10) ++ (general 4 2 1
    ++ (discover 0 2 (at 0x10) (at 0x20) 2
    ++ (discover 1 1 (at 0x10) (at 0xa1) 0
    ++ (bytes_of 8 (at 0x20) ++ (general 0 3 0
    ++ (discover 0 2 (at 0x20) (at 0x10) 1
    ++ (discover 1 type (at 0x20) address 0
    ++ discover 2 0 (at 0x20) 0 0))))))))

unfoldable pub pair_rig : Phy → Domain
pair_rig φ =
    record { address = at 0x10; route_indexes = 4; configurable = 1; phys = phy 2 2 (at 0x20) ∷ phy 1 0 (at 0xa1) ∷ [] }
    ∷ record { address = at 0x20; route_indexes = 0; configurable = 0; phys = phy 2 1 (at 0x10) ∷ φ ∷ phy 0 0 0 ∷ [] }
    ∷ []

abbrev event : ℕ → ℕ → ℕ → Event
event e p a = record { expander = record { 0 = e }; phy = record { 0 = p }; address = a }

-- five words and two bytes: the table of the rig and its bits, and padding bits that are set
abbrev lent : Entries
lent = entries (at 0xb1 ∷ 0 ∷ 0 ∷ 0 ∷ 7 ∷ []) (0x7f ∷ 9 ∷ [])

abbrev outcome : Event → Room → Result Domain
outcome v room = event_call widest (pair_file 1 (at 0xb1)) v room

-- B1 pulled: its address and attached phy bytes stay in the file, entry 0 of the table is disabled, and one word has changed
pub pulled : (outcome (event 1 1 0) (room_of lent) ≡ good (pair_rig (phy 0 0 0)))
    × (file_edited (pair_file 1 (at 0xb1)) (event 1 1 0) ≡ pair_file 0 (at 0xb1))
    × (refilled (pair_rig (phy 0 0 0)) 1 lent ≡ entries (0 ∷ 0 ∷ 0 ∷ 0 ∷ 7 ∷ []) (0xff ∷ 9 ∷ []))
    × (moved (pair_rig (phy 0 0 0)) 1 lent (refilled (pair_rig (phy 0 0 0)) 1 lent) ≡ record { table_count = 1; word_count = 1 })
unfolding pair_file pair_rig number_bits field bits_of packed_in
    number_at bytes_of frame_size general_fixed general_read discover_fixed discover_read
    numbers any keep is_in number_of size_at phy_unit phy_units expander_unit expanders header_unit in_range domain_read
    unanswered end_at claimed clash clashing fixed phy_places places_from first_in wired_domain
    strip reach cabled neighbours unlooped joined joined_in chains_within unlong linked_domain
    each_once downstream_of_phys downstream next_level levels_from levels flat_map
    address_at gives give give_all level_list table table_places size sizes overlong judged_domain
    with_phy set_phy touched renewed changed phys_after expanders_after frame_edited event_call
pulled = (refl, refl, refl, refl)

-- C1 plugged in its place
pub plugged : (outcome (event 1 1 (at 0xc1)) (room_of lent) ≡ good (pair_rig (phy 1 0 (at 0xc1))))
    × (file_edited (pair_file 1 (at 0xb1)) (event 1 1 (at 0xc1)) ≡ pair_file 1 (at 0xc1))
    × (refilled (pair_rig (phy 1 0 (at 0xc1))) 1 lent ≡ entries (at 0xc1 ∷ 0 ∷ 0 ∷ 0 ∷ 7 ∷ []) (0x7f ∷ 9 ∷ []))
    × (moved (pair_rig (phy 1 0 (at 0xc1))) 1 lent (refilled (pair_rig (phy 1 0 (at 0xc1))) 1 lent) ≡ record { table_count = 1; word_count = 1 })
unfolding pair_file pair_rig number_bits field bits_of packed_in
    number_at bytes_of frame_size general_fixed general_read discover_fixed discover_read
    numbers any keep is_in number_of size_at phy_unit phy_units expander_unit expanders header_unit in_range domain_read
    unanswered end_at claimed clash clashing fixed phy_places places_from first_in wired_domain
    strip reach cabled neighbours unlooped joined joined_in chains_within unlong linked_domain
    each_once downstream_of_phys downstream next_level levels_from levels flat_map
    address_at gives give give_all level_list table table_places size sizes overlong judged_domain
    with_phy set_phy touched renewed changed phys_after expanders_after frame_edited event_call
plugged = (refl, refl, refl, refl)

-- refused: 8 at another phy than the one named; 20 at a phy attached to an expander, before 16; 16, then 18, before the edited file's 8
pub not_plugged : (outcome (event 0 1 (at 0xb1)) (room_of lent) ≡ refused (refusal 8 1 1))
    × (outcome (event 1 0 0) (room_of (entries [] [])) ≡ refused (refusal 20 0 0))
    × (outcome (event 2 0 0) (room_of lent) ≡ refused (refusal 20 0 0))
    × (outcome (event 0 1 (at 0xb1)) (room_of (entries [] [])) ≡ refused (refusal 16 0 0))
    × (outcome (event 0 1 (at 0xb1)) (room_of (entries lent.words [])) ≡ refused (refusal 18 0 0))
unfolding pair_file
    number_at bytes_of frame_size general_fixed general_read discover_fixed discover_read
    numbers any keep is_in number_of size_at phy_unit phy_units expander_unit expanders header_unit in_range domain_read
    unanswered end_at claimed clash clashing fixed phy_places places_from first_in wired_domain
    strip reach cabled neighbours unlooped joined joined_in chains_within unlong linked_domain
    each_once downstream_of_phys downstream next_level levels_from levels flat_map
    address_at gives give give_all level_list table table_places size sizes overlong judged_domain
    phys_after expanders_after frame_edited event_call
not_plugged = (refl, refl, refl, refl, refl)
