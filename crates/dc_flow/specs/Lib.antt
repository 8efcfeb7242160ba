pub mod Dc
pub mod Inner
