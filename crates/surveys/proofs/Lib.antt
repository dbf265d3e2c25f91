pub mod WordSearches
pub mod WordEntries
pub mod SurveyRefusals
