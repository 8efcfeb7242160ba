pub mod Inputs
pub mod Runs
