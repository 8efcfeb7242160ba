-- Counts against the library's limit.
use Rattle.std.specs.Prelude.{ℕ, Bool, ◌||◌, ltb}
use Rattle.refusals.specs.Refusals.{limit}

-- one of these counts is above the limit
abbrev pub over : ℕ → ℕ → ℕ → ℕ → Bool
over n a b c = ltb limit n || (ltb limit a || (ltb limit b || ltb limit c))
