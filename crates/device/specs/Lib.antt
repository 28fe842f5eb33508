pub use Rattle.device_opening.specs.Moves
pub use Rattle.device_opening.specs.Placement
pub use Rattle.device_opening.specs.Writes as ReplayWrites
pub use Rattle.journal_device.specs.Answers as JournalDeviceAnswers
pub use Rattle.journal_device.specs.Closing
pub use Rattle.journal_device.specs.Commits
pub use Rattle.journal_device.specs.Device as JournalDeviceDevice
pub use Rattle.journal_device.specs.Journal
pub use Rattle.journal_device.specs.Standing
pub mod Answers
pub mod Calls
pub mod Device
pub mod Opening
pub mod Run
pub mod Tags
pub mod Telling
