pub mod RefusalBounds
pub mod JoinedFileWritten
pub mod JoinOutcomes
pub mod CabledFrames
pub mod FileUnits
pub mod SameAddress
pub mod BridgedGraphs
pub mod PartsOfJoined
pub mod PartTables
pub mod JoinTables
pub mod JoinedPassesCauses
pub mod JoinedDomains
pub mod JoinedAccepted
pub mod TracesAlike
pub mod ArrivalOverTables
pub mod ArrivalAcross
pub mod JoinedReads
pub mod RowsJudged
pub mod JoinRefusals
pub mod LowestPlaces
pub mod SharedAddresses
pub mod BenchRefusals
pub mod JoinCauses
pub mod JoinedEntries
mod WorkedJoin
mod WorkedArrival
