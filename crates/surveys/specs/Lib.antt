pub mod WordEntries
pub mod SurveyCauses
