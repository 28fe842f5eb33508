pub mod Salvaged
pub mod Telling
pub mod Refusing
