pub use Rattle.disk_model.specs.Causes
pub use Rattle.disk_model.specs.Disk
pub use Rattle.disk_model.specs.Identity
pub use Rattle.disk_model.specs.Moments
pub mod Files
