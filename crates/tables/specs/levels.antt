-- The levels of a table phy.
pub mod Levels
