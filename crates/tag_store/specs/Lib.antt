pub mod Spans
pub mod Store
pub mod StoreLaws
