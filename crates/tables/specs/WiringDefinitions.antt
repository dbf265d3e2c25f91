-- What the layers above use of wiring, files and frames.
pub use Rattle.wiring.specs.FrameDefinitions.{byte, bytes_for, zero_bit, Refusal, Result, refused, good, unless, then, refusal, new_after, RefusesExactly}
unfoldable pub use Rattle.wiring.specs.FrameDefinitions.{number_bits, field, bits_of, packed_in, marked}
pub use Rattle.wiring.specs.FrameDefinitions.{General, LongGeneral, Discover, Route, general_read, GeneralSas2, short, long, general_read_sas2}
pub use Rattle.wiring.specs.FrameDefinitions.{Discovered, vacant, fields, discover_read}
pub use Rattle.wiring.specs.FrameDefinitions.{route_written, write_answer, buffer_after, route_read}
pub use Rattle.files.specs.declared.Phy.{Phy}
pub use Rattle.files.specs.declared.Phy.TheVariants.{Vacant, Present}
pub use Rattle.files.specs.Lists.{up_to, In, Distinct, Below, last}
unfoldable pub use Rattle.files.specs.Lists.{numbers, any, is_in, keep}
pub use Rattle.files.specs.Domain.{Expander, Domain, no_expander, expander_at, phy_at, type_of, address_of, attached_phy_of, attribute_of, has_attribute, is_table, is_subtractive, is_direct}
pub use Rattle.files.specs.Domain.{attached, to_end, to_expander, bears}
unfoldable pub use Rattle.files.specs.Domain.{number_of}
pub use Rattle.files.specs.declared.Setting.{Setting}
pub use Rattle.files.specs.Settings.{most_phys, InRange, widest, NoSmaller}
unfoldable pub use Rattle.files.specs.Settings.{in_range}
pub use Rattle.files.specs.File.{domain_read}
pub use Rattle.files.specs.ReadDomain.{Read}
pub use Rattle.files.specs.ShortFile.{short_file}
pub use Rattle.files.specs.Rows.{row_words, most_row_words, domain_in, RowsRead}
pub use Rattle.wiring.specs.phys.PhyCauses.{Place, place, places, wired_domain, wired}
unfoldable pub use Rattle.wiring.specs.phys.PhyCauses.{phy_places, places_from}
pub use Rattle.wiring.specs.phys.Checks.{check_answer, FileRoom}
pub use Rattle.wiring.specs.index.AddressIndex.{slots_before, most_slots, most_domain_phys, IndexedFirst, IndexLeft, IndexRoom}
pub use Rattle.wiring.specs.graph.Graph.{Steps, self}
pub use Rattle.wiring.specs.graph.Neighbours.{neighbours, wiring_call, bits_set}
pub use Rattle.wiring.specs.graph.Devices.{LoopIn, ChainIn, TableToTable, Clear, ClearChain, NoTableToTable, Home, Borne}
