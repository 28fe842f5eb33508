pub mod Told
pub mod Answering
pub mod AskRun
pub mod Calls
pub mod Lines
