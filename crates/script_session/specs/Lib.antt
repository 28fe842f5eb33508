pub mod Calls
pub mod LineRun
pub mod Meaning
pub mod Stop
pub mod Tickets
pub mod Told
