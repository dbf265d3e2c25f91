pub mod PlainTable
pub mod Shelf
pub mod Calls
pub mod TableFrames
