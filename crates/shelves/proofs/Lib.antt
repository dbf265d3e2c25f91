pub mod ToldKinds
pub mod FrameResults
pub mod ShelfAgrees
pub mod FrameOrders
pub mod ShelfRefusals
pub mod ShelfRoom
pub mod TablesOnShelf
mod WorkedShelf
