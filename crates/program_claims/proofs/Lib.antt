pub mod Calls
pub mod Dropped
pub mod Runs
mod Witness
