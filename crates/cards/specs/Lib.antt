pub mod Card
pub mod CardRead
pub mod ShortFrames
pub mod FileOf
pub mod FileOfFile
pub mod Calls
pub mod CardCauses
pub mod CardWalks
