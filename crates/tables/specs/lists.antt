-- Level lists, own lists, and cause 14.
pub mod OwnLists
pub mod PreparedLists
pub mod GrowingLists
