pub mod ScriptRunLemmas
pub mod ReadingLemmas
pub mod RecoveryLemmas
mod WorkedRecovery
