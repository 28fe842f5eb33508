pub mod Room
pub mod Sections
pub mod Runs
pub mod Ring
pub mod Places
pub mod Batch
pub mod RoomLaws
