-- Causes 7 to 10, which stand at a phy.
pub mod PlaceSearches
pub mod WiredPhys
pub mod LowerPhys
