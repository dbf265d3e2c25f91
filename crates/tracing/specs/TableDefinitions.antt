-- What the layer above uses of the layers below.
pub use Rattle.tables.specs.WiringDefinitions.{Setting, Refusal, Result, refused, good, then, wiring_call, bits_set, new_after}
pub use Rattle.tables.specs.WiringDefinitions.{General, LongGeneral, Discover, Route, general_read, GeneralSas2, short, long, general_read_sas2}
pub use Rattle.tables.specs.WiringDefinitions.{Discovered, vacant, fields, discover_read}
pub use Rattle.tables.specs.WiringDefinitions.{route_written, write_answer, buffer_after, route_read}
pub use Rattle.tables.specs.filling.Entries.{Entries, entries, Room, room_of}
pub use Rattle.tables.specs.declared.Counted.{Counted}
pub use Rattle.tables.specs.JudgingCall.{judged, expanders_in, table_call, counts_in, tables_after}
unfoldable pub use Rattle.tables.specs.WiringDefinitions.{in_range}
