pub mod TrimmedWords
pub mod NoRig
pub mod RowPuts
pub mod FileBytes
pub mod RigLimits
pub mod Exercise
pub mod MakeOutcomes
pub mod ExerciseRefusals
mod WorkedExercise
