pub mod Book
pub mod Renumbered
