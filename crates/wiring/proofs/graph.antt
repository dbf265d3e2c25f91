-- Expanders and cables as a graph, and causes 11, 12 and 23.
pub mod GraphWalks
pub mod Loops
pub mod ReachedByChain
pub mod LongChains
pub mod WordSets
pub mod NeighbourWords
pub mod RoundSets
pub mod CableSets
