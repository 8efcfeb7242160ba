-- Numbers by their bit patterns.
use Rattle.std.specs.Prelude.{ℕ, List, map, Float}
use Rattle.std.specs.Float.{binary64}
use Rattle.std.specs.Float.Ieee.{of_bits}

-- the numbers with these bit patterns
unfoldable pub of_bit_patterns : List ℕ → List Float
of_bit_patterns = map (of_bits binary64)
