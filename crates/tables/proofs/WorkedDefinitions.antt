-- Definitions of wiring, files and frames, passed on to the layer above for worked examples, which compute.
unfoldable pub use Rattle.wiring.proofs.WorkedDefinitions.{number_at, bytes_of, frame_size, general_fixed, general_read, discover_fixed, discover_read}
unfoldable pub use Rattle.files.specs.Lists.{numbers, any, keep, is_in}
unfoldable pub use Rattle.files.specs.Domain.{number_of}
unfoldable pub use Rattle.files.specs.File.{size_at, phy_unit, phy_units, expander_unit, expanders, header_unit, domain_read}
unfoldable pub use Rattle.files.specs.ShortFile.{short_phys, short_expanders, short_file}
unfoldable pub use Rattle.wiring.specs.phys.PhyCauses.{unanswered, end_at, claimed, clash, clashing, fixed, phy_places, places_from, first_in, wired_domain}
unfoldable pub use Rattle.wiring.specs.graph.Graph.{strip, reach}
unfoldable pub use Rattle.wiring.specs.graph.Neighbours.{cabled, neighbours}
unfoldable pub use Rattle.files.specs.Settings.{in_range}
unfoldable pub use Rattle.wiring.specs.graph.LongChains.{chains_within, unlong}
unfoldable pub use Rattle.wiring.specs.graph.LinkCauses.{unlooped, joined, joined_in, linked_domain}
