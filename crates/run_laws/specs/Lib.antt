pub mod RunLaws
pub mod ReadingLaws
pub mod RecoveryLaws
