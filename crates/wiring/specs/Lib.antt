pub mod FrameDefinitions
pub mod index
pub mod phys
pub mod graph
pub mod WiringCauses
