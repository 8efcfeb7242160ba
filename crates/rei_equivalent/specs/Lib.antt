pub mod Rei
pub mod Inner
