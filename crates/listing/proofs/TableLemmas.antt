-- What the program uses of the definitions and lemmas below.
pub use Rattle.tables.specs.WiringDefinitions.{most_row_words}
pub use Rattle.tables.proofs.WiringLemmas.{read-good, opened-fits}
