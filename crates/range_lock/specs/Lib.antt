pub mod Asks
pub mod InFlight
