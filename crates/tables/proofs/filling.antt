-- Tables in words with their disable bits.
pub mod TableLengths
pub mod TableStretches
pub mod CountedWords
pub mod WordsChanged
pub mod FilledTable
pub mod TablesPut
pub mod WorkedTables
