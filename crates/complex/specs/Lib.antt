pub mod Constants
pub mod Arithmetic
pub mod Entries
pub mod Matrices
pub mod Values
pub mod Computed
pub mod Magnitude
pub mod Leaves
pub mod Inner
-- what proofs of other crates name, as names of this crate
pub use declared.Complex.{Complex}
unfoldable pub use Constants.{plus0, one, division_limit, small_magnitude, tie_threshold}
pub use Arithmetic.{◌⊕◌, ◌⊖◌, ◌⊗◌, ◌⊘◌, too_small, unit}
unfoldable pub use Arithmetic.{cadd, csub, cneg, cmul, sqmag, cdiv, complex_inv}
unfoldable pub use Entries.{entry, put}
pub use Matrices.{Matrix}
unfoldable pub use Matrices.{entry_at, row, rows, grid, zeros}
pub use Values.{◌≈◌, Zero, NonZero}
pub use Computed.{of_parts, of_sum, of_difference, of_product, of_sqmag, of_quotient}
unfoldable pub use Magnitude.{abs, magnitude}
