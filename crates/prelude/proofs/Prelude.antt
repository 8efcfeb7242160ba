-- The names of the libraries that most proofs use, so that a proof file takes them in one line.
pub use mathlib.Core.Path.{◌≡◌, refl, sym, ap, ◌∙◌, subst, ap₂}
pub use mathlib.Core.Bool.{Bool, true, false, not, ◌&&◌, ◌||◌, cond, true≢false}
pub use mathlib.Core.Logic.{◌⊎◌, inl, inr, ⊎_elim}
pub use mathlib.Core.List.{List, [], ◌∷◌, ◌++◌, append_assoc, append-nil, map}
pub use Prim.Native.Nat.{ℕ, zero, suc, ◌+◌, ◌-◌, ◌*◌, ◌≤◌, ◌<◌, ◌%◌, ◌/◌, ◌^◌}
pub use native.Mathlib.Numerals.{add-one}
pub use native.Mathlib.Omega.{arith}
pub use borrow.Author.Rules.{rules}
pub use lib.Dec.{T, eqb, ltb, eqb→eq, leb, leb→le, lit<, lit≤, ltb→lt, lt→ltb}
unfoldable pub use lib.ListN.{length, get_or, take, drop, replicate}
pub use lib.Ieee.{Float, nan, Format, binary64, down, fin, inf, up}
pub use borrow.Author.Tests.{eq-eqb, eqb-true, le-leb, le-ltb, lt-leb, lt-ltb, ltb-false, ltb-true, ne_eqb, not-false, not-true}
unfoldable pub use lib.Ieee.{add, climb, div, eq, fits, lt, mul, neg, odd, of_bits, of_fields, of_int, round, size, span, sub, sum, to_bits, units}
pub use lib.Ieee.Bits.{is_true}
pub use lib.Ieee.Fits.{and_i, and_l, and_r, down_pos}
pub use lib.Ieee.Scale.{finite}
pub use lib.IntN.{ℤ}
pub use lib.ListN.{get_or-append as List·getD-append, drop_of_length-le, length-append, length-drop, length-map, length-replicate, length-set, length-take, set, take-append-drop}
pub use lib.Seq.{drop-cons, drop-drop, ext_get_or, get_or-drop, get_or-set_other, get_or-set_same, get_or-take, length-take-le, sets, take_all, take-append_seam, take_at, take-suc}
pub use native.Mathlib.Nat.{add_assoc, add-zero, eq-or-lt_of_le, le_of_eq, le_trans, lt_irrefl, lt_of_lt_of_le, mul_comm, mul-le-mul, mul-le-mul_left, mul-le-mul_right, mul-lt-mul_of_pos_right, mul-pos, not-le_of_lt, sub-zero, suc-mul, zero-add, zero-lt-suc, zero-mul}
