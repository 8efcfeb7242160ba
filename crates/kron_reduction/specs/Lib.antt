pub mod Kron
pub mod Reducer
pub mod Reading
pub mod Inner
pub mod FiniteAnswers
