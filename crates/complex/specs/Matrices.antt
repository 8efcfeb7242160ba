-- Matrices by row and column, and how they lie in a slice of f64: row after row, real then imaginary.
use Rattle.std.specs.Prelude.{ℕ, ◌+◌, ◌*◌, List, [], ◌∷◌, ◌++◌, replicate, Float}
use Rattle.lists.specs.Buses.{up_to}
use Rattle.complex.specs.declared.Complex.{Complex}
use Rattle.complex.specs.Constants.{plus0}
use Rattle.complex.specs.Entries.{entry}

-- the entry in the row of the first and the column of the second
abbrev pub Matrix : Type 0
Matrix = ℕ → ℕ → Complex

-- reading: the matrix whose rows of w entries stand in ys
unfoldable pub entry_at : ℕ → List Float → Matrix
entry_at w ys p q = entry ys (p * w + q)

-- laying out: row i of Y in the columns js, and the rows is of it
unfoldable pub row : Matrix → ℕ → List ℕ → List Float
row Y i [] = []
row Y i (j ∷ js) = (Y i j).re ∷ (Y i j).im ∷ row Y i js

unfoldable pub rows : Matrix → List ℕ → List ℕ → List Float
unfolding row
rows Y [] js = []
rows Y (i ∷ is) js = row Y i js ++ rows Y is js

-- n rows of m entries, numbered from 0
unfoldable pub grid : ℕ → ℕ → Matrix → List Float
unfolding rows up_to
grid n m Y = rows Y (up_to n) (up_to m)

-- n times +0
unfoldable pub zeros : ℕ → List Float
unfolding plus0
zeros n = replicate n plus0
