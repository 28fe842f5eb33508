pub mod ToBitmap
pub mod ToJournal
