-- A drive plugged or pulled: what is tested again, and which tables are written afresh.
pub mod TouchedTables
pub mod ReplugCall
pub mod EndDeviceTests
pub mod TablesRewritten
