pub mod Writing
pub mod WordLaws
pub mod WordSizes
