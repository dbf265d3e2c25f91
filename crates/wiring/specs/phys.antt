-- Causes 7 to 10, which stand at a phy.
pub mod PhyCauses
pub mod Checks
pub mod Clashes
pub mod CauseNumbers
