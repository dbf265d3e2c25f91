-- Who has an address.
pub mod SearchTrees
pub mod ExpanderNumbers
pub mod SlotDevices
pub mod IndexWriting
pub mod IndexKept
pub mod IndexEntries
