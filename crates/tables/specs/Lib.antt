pub mod WiringDefinitions
pub mod levels
pub mod filling
pub mod lists
pub mod JudgingCall
pub mod TableCauses
pub mod events
