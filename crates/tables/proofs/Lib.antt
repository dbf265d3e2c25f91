pub mod WiringLemmas
pub mod WorkedDefinitions
pub mod AcceptedDomains
pub mod TableRefusals
pub mod CallOutcomes
pub mod LongFrames
pub mod WiderSetting
