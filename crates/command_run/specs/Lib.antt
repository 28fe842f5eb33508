pub mod Closing
pub mod Lines
pub mod Reopening
pub mod StoredTags
pub mod Stopping
pub mod Serving
