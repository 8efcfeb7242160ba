pub mod Lines
pub mod Reading
pub mod Printing
pub mod Reduce
pub mod Inner
