-- A bit pattern's number is one of binary64.
use Rattle.prelude.proofs.Prelude.{List, [], ◌∷◌, ℕ, zero, suc, binary64}
use lib.Ieee.Fits.{nan-fits}
use lib.Ieee.Bits.{of_bits-fits}
use Rattle.binary64.specs.Values.{F64s}
use Rattle.binary64.specs.BitPatterns.{of_bit_patterns}

pub words-f64s : (ws : List ℕ) → F64s (of_bit_patterns ws)
unfolding of_bit_patterns
words-f64s [] i = nan-fits binary64
words-f64s (w ∷ ws) zero = of_bits-fits binary64 w
words-f64s (w ∷ ws) (suc i) = words-f64s ws i
