pub mod Bits
pub mod BitPatterns
pub mod Floats
pub mod Signs
pub mod Order
pub mod WholeRoots
pub mod RootSpecial
pub mod RootDigits
pub mod RootRounding
pub mod RootMiddles
pub mod RootNearest
mod RootCases
pub mod Operands
pub mod Magnitudes
pub mod Flags
pub mod SquareRange
