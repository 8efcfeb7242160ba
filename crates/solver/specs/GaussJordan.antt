-- Gauss-Jordan elimination, a column at a time, on a matrix of n rows whose columns from n on are right sides.
-- The element's operations are a parameter: complex numbers are one instance.
use Prim.Native.Nat.{ℕ, zero, suc, ◌+◌, ◌-◌}
use Rattle.std.specs.Prelude.{Bool, true, false, not, ◌||◌, eqb, ltb, Float}
use Rattle.std.proofs.Math.Bool.{cond}
use Rattle.std.specs.Float.Ieee.{lt}

pub record Operations (E : Type 0) : Type 0 where
  pub times : E → E → E
  pub minus : E → E → E
  pub inverse : E → E
  -- by which pivots are compared: the squared magnitude
  pub weight : E → Float
  -- whether a pivot is too small to divide by
  pub small : E → Bool
  -- whether a row with this factor is left as it is
  pub skips : E → Bool

abbrev pub MatrixOf : Type 0 → Type 0
MatrixOf E = ℕ → ℕ → E

-- The pivot rule: the held row gives way only to a later row of strictly greater weight.
unfoldable pub stays : Float → Float → Bool
stays held later = not (lt held later)

pub record Elimination (E : Type 0) : Type 0 where
  -- refused with 13
  pub singular : Bool
  -- the matrix where the work ended
  pub left : MatrixOf E

module _ {E : Type 0} (O : Operations E) where
  -- of the held row and the `count` rows from `next` on, the one that is held at the end
  unfoldable pub held_after : MatrixOf E → ℕ → ℕ → ℕ → ℕ → ℕ
  unfolding stays
  held_after A c held next zero = held
  held_after A c held next (suc count) =
      held_after A c (cond (stays (O.weight (A held c)) (O.weight (A next c))) held next) (suc next) count

  -- the pivot's row for column c, among the rows from c down
  unfoldable pub pivot_row : ℕ → MatrixOf E → ℕ → ℕ
  unfolding held_after
  pivot_row n A c = held_after A c c (suc c) (n - suc c)

  -- rows p and q change places
  unfoldable pub swapped : ℕ → ℕ → MatrixOf E → MatrixOf E
  swapped p q A i j = A (cond (eqb i p) q (cond (eqb i q) p i)) j

  -- row c is multiplied by the inverse of its entry in column c
  unfoldable pub scaled : ℕ → MatrixOf E → MatrixOf E
  scaled c A i j = cond (eqb i c) (O.times (A i j) (O.inverse (A c c))) (A i j)

  -- every other row that is not skipped loses its factor times row c
  unfoldable pub reduced : ℕ → MatrixOf E → MatrixOf E
  reduced c A i j = cond (eqb i c || O.skips (A i c)) (A i j) (O.minus (A i j) (O.times (A i c) (A c j)))

  -- the matrix with column c's pivot row in place
  unfoldable pub pivoted : ℕ → ℕ → MatrixOf E → MatrixOf E
  unfolding pivot_row swapped
  pivoted n c A = swapped c (pivot_row n A c) A

  unfoldable pub cleared : ℕ → MatrixOf E → MatrixOf E
  unfolding scaled reduced
  cleared c B = reduced c (scaled c B)

  -- the columns from c on, `count` of them: stopped at the first pivot that is too small
  unfoldable pub gauss_jordan_from : ℕ → ℕ → ℕ → MatrixOf E → Elimination E
  unfolding pivoted cleared
  gauss_jordan_from n zero c A = record { singular = false; left = A }
  gauss_jordan_from n (suc count) c A =
      let B = pivoted n c A in
      cond (O.small (B c c)) (record { singular = true; left = B }) (gauss_jordan_from n count (suc c) (cleared c B))

  unfoldable pub gauss_jordan : ℕ → MatrixOf E → Elimination E
  unfolding gauss_jordan_from
  gauss_jordan n A = gauss_jordan_from n n 0 A

  -- the pairs of column c and another of the rows below n whose factor is not skipped; C has column c's pivot row scaled
  unfoldable pub pairs_in : MatrixOf E → ℕ → ℕ → ℕ
  pairs_in C c zero = 0
  pairs_in C c (suc i) = pairs_in C c i + cond (eqb i c || O.skips (C i c)) 0 1

  -- those in the columns from c on, `count` of them
  unfoldable pub pairs_from : ℕ → ℕ → ℕ → MatrixOf E → ℕ
  unfolding pivoted scaled cleared pairs_in
  pairs_from n zero c A = 0
  pairs_from n (suc count) c A =
      let B = pivoted n c A in
      cond (O.small (B c c)) 0 (pairs_in (scaled c B) c n + pairs_from n count (suc c) (cleared c B))

  -- those of the whole elimination, up to the first pivot that is too small
  unfoldable pub pairs : ℕ → MatrixOf E → ℕ
  unfolding pairs_from
  pairs n A = pairs_from n n 0 A

  -- a system and, in the columns behind it, its right sides
  unfoldable pub augmented : ℕ → MatrixOf E → MatrixOf E → MatrixOf E
  augmented n A B i j = cond (ltb j n) (A i j) (B i (j - n))

  -- the solution of A x = b, b given by row: its entry in row i
  unfoldable pub solution : ℕ → MatrixOf E → (ℕ → E) → ℕ → E
  unfolding gauss_jordan augmented
  solution n A b i = (gauss_jordan n (augmented n A (λ (r k : ℕ). b r))).left i n

  -- 13 comes or not by the system alone
  unfoldable pub singular_system : ℕ → MatrixOf E → Bool
  unfolding gauss_jordan
  singular_system n A = (gauss_jordan n A).singular
