-- What the inner functions of a Ward study do: rows of the given matrix gathered by a list of buses, the work slice filled, products with
-- its columns.
use Rattle.std.specs.Prelude.{ℕ, ◌+◌, ◌*◌, ◌≡◌, cond, List, T, ltb, length, get_or, Float}
use Rattle.std.specs.Float.{nan}
use Rattle.complex.specs.declared.Complex.{Complex}
use Rattle.complex.specs.Arithmetic.{cmul, csub}
use Rattle.complex.specs.Matrices.{Matrix, entry_at}
use Rattle.lists.specs.Buses.{all_below}
use Rattle.ward_equivalent.specs.Arithmetic.{sum_up, current}

-- a matrix of n buses, and buses that it has
pub record Listing (n : ℕ) (ys : List Float) (bs : List ℕ) : Type 0 where
  pub full : length ys ≡ 2 * (n * n)
  pub below : T (all_below n bs)

-- a work slice of a row of w entries for each external bus
pub record ExternalRows (es : List ℕ) (w : ℕ) (ws : List Float) : Type 0 where
  pub full : length ws ≡ 2 * (length es * w)

-- row k of the work slice: the external bus's entries in the columns of the buses bs, external ones first, and c behind them
unfoldable pub work_row : ℕ → List Float → List ℕ → ℕ → Complex → ℕ → Complex
work_row n ys bs k c j = cond (ltb j (length bs)) (entry_at n ys (get_or bs k 0) (get_or bs j 0)) c

-- Y_ee, Y_er and the currents
unfoldable pub work_matrix : ℕ → List Float → List ℕ → Float → List Float → List Float → Matrix
unfolding current work_row
work_matrix n ys bs base ps qs k j = work_row n ys bs k (current base (get_or ps k nan) (get_or qs k nan)) j

-- the entries between the bus at place p of ks and those at its places
unfoldable pub picked_row : ℕ → List Float → List ℕ → ℕ → ℕ → Complex
picked_row n ys ks p q = entry_at n ys (get_or ks p 0) (get_or ks q 0)

-- the `count` first terms of row `bus` of Y_re times column c of the work slice's rows of w entries
unfoldable pub product_to : ℕ → List Float → List ℕ → ℕ → List Float → ℕ → ℕ → ℕ → Complex
unfolding sum_up
product_to n ys es w ws bus c count = sum_up count (λ (k : ℕ). cmul (entry_at n ys bus (get_or es k 0)) (entry_at w ws k c))

abbrev pub product : ℕ → List Float → List ℕ → ℕ → List Float → ℕ → ℕ → Complex
product n ys es w ws bus c = product_to n ys es w ws bus c (length es)

-- the equivalent's entry between bus i and the bus at place q of ks; the columns of X begin at column `first` of the work slice's rows
unfoldable pub less_product : ℕ → List Float → List ℕ → List ℕ → ℕ → List Float → ℕ → ℕ → ℕ → Complex
unfolding product_to
less_product n ys es ks w ws first i q = csub (entry_at n ys i (get_or ks q 0)) (product n ys es w ws i (first + q))
