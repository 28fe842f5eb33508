pub mod KeyFile
pub mod Ends
pub mod Top
pub mod Mirrored
