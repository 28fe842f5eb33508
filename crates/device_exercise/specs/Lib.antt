pub mod Calls
pub mod Exercising
pub mod InOrder
