pub mod Flight
pub mod InFlight
pub mod Serving
pub mod Submitting
pub mod Table
pub mod Taking
