pub mod WardKeeps
pub mod WardRows
pub mod WardWitness
