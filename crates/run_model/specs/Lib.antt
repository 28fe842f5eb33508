pub mod Ending
pub mod ScriptRun
pub mod ExerciseRun
pub mod CommandRun
pub mod ServedRun
