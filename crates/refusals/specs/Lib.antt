pub mod Refusals
pub mod Work
