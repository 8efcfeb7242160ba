pub mod Work
pub mod Listed
pub mod Sequence
pub mod Views
