-- Tables in words with their disable bits.
pub mod Tables
pub mod Entries
pub mod WordsChanged
