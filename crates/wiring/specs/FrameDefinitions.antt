-- What the layers above use of frames.
pub use Rattle.frames.specs.Bytes.{byte}
unfoldable pub use Rattle.frames.specs.Bits.{number_bits, field, bits_of, packed_in, marked}
pub use Rattle.frames.specs.Bits.{bytes_for, zero_bit, zero_bits}
pub use Rattle.frames.specs.declared.Refusal.{Refusal}
pub use Rattle.frames.specs.Refusals.{Result, refused, good, unless, then, refusal, new_after}
pub use Rattle.frames.specs.RefusesExactly.{RefusesExactly}
pub use Rattle.frames.specs.declared.General.{General}
pub use Rattle.frames.specs.declared.LongGeneral.{LongGeneral}
pub use Rattle.frames.specs.declared.Discover.{Discover}
pub use Rattle.frames.specs.declared.Route.{Route}
pub use Rattle.frames.specs.ReportGeneral.{general_read, general_read_sas2}
pub use Rattle.frames.specs.declared.GeneralSas2.{GeneralSas2}
pub use Rattle.frames.specs.declared.GeneralSas2.TheVariants.{Short as short, Long as long}
pub use Rattle.frames.specs.Discovery.{discover_read}
pub use Rattle.frames.specs.declared.Discovered.{Discovered}
pub use Rattle.frames.specs.declared.Discovered.TheVariants.{Vacant as vacant, Fields as fields}
pub use Rattle.frames.specs.ConfigureRoute.{route_written, write_answer, buffer_after, route_read}
