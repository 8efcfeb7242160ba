pub mod MagnitudeLaws
pub mod Entries
pub mod Matrices
pub mod Finite
pub mod Sticky
pub mod FiniteEntries
pub mod Leaves
pub mod Answers
pub mod Roots
pub mod Sizes
pub mod SmallMagnitude
pub mod SameValue
pub mod Squares
mod MagnitudeCases
pub mod LeafSteps
pub mod FiniteLeaves
