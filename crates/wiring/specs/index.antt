-- Who has an address.
pub mod AddressIndex
pub mod SearchTree
pub mod IndexFacts
