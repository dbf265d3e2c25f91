pub mod FormRows
pub mod BadPlaces
pub mod WordsCompared
pub mod FormWords
pub mod FormDomains
pub mod RightWords
pub mod FormCallOutcomes
pub mod NormalDomains
pub mod NormalTraces
pub mod FormRoundTrip
pub mod AcceptedForms
pub mod FormRefusals
pub mod TooManyWords
mod PairForm
