pub use Rattle.disk_model.specs.Causes
pub use Rattle.disk_model.specs.Identity
pub use Rattle.file_disk.specs.Files
pub use Rattle.stream_io.specs.Stream
pub mod Streams
