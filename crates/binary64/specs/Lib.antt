pub mod Root
pub mod Values
pub mod BitPatterns
pub mod Inner
