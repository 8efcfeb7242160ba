pub mod Buses
pub mod Limits
