pub mod ExerciseLemmas
mod Worked
