pub mod Demand3
pub mod BitPatterns
mod Bites
