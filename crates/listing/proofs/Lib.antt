pub mod TableLemmas
pub mod BytesPut
pub mod Digits
pub mod Cursors
pub mod Chunks
pub mod Listing
