-- The levels of a table phy.
pub mod EachOnce
pub mod LevelsBeyond
pub mod DownstreamLists
pub mod LinkPhys
pub mod DownstreamCollected
pub mod LevelOrders
