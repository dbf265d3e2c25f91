-- Definitions of frames, passed on to the layers above for worked examples, which compute.
unfoldable pub use Rattle.frames.specs.Bytes.{number_at, bytes_of}
unfoldable pub use Rattle.frames.specs.Sizes.{frame_size}
unfoldable pub use Rattle.frames.specs.ReportGeneral.{general_fixed, general_read}
unfoldable pub use Rattle.frames.specs.Discovery.{discover_fixed, discover_read}
