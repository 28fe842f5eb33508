pub mod Asking
pub mod Deeds
pub mod Flight
pub mod Judging
pub mod Replying
pub mod Rounds
