pub mod PluggedAddress
pub mod FrameOffsets
pub mod EditedFile
pub mod TouchedTablesRefilled
pub mod EventLists
pub mod EventRefusals
pub mod TablesTouched
pub mod CausesAfterEvent
pub mod EventsByOwnLists
pub mod EventOutcomes
mod PairEvents
pub mod OneWordChanged
pub mod WordsMoved
mod WordsMovedRigs
