pub mod Window
pub mod Room
