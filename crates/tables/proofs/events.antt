-- A drive plugged or pulled: what is tested again, and which tables are written afresh.
pub mod RetestLoops
pub mod LevelsAfterEvent
pub mod ReplugOutcomes
pub mod BitsReplaced
pub mod NumbersRenewed
pub mod TablesRewritten
