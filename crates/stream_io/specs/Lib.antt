pub use Rattle.disk_model.specs.Causes
pub use Rattle.disk_model.specs.Identity
pub mod InMemory
pub mod Stream
