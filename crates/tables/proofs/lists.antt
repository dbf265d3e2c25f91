-- Level lists, own lists, and cause 14.
pub mod LevelListMembers
pub mod GrowingLists
pub mod ListCells
pub mod OwnListLoops
pub mod LevelListLaw
pub mod OverlongLists
pub mod LevelListsByOwn
