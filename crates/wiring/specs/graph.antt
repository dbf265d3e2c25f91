-- Expanders and cables as a graph, and causes 11, 12 and 23.
pub mod Graph
pub mod Neighbours
pub mod Rounds
pub mod CableSets
pub mod LinkCauses
pub mod Devices
pub mod LongChains
pub mod RoundCauses
