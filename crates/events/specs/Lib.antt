pub mod Events
pub mod EventFile
pub mod Calls
pub mod EventLists
pub mod EventCauses
pub mod WordsMoved
