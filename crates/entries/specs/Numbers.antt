-- Whether so many bytes are those of so many numbers.
use Rattle.std.specs.Prelude.{ℕ, ◌*◌, cond, eqb}
use Rattle.refusals.specs.Refusals.{wrong_length}

-- 0 where they are, k each, else 2
unfoldable pub misfit : ℕ → ℕ → ℕ → ℕ
misfit k bytes count = cond (eqb bytes (k * count)) 0 wrong_length
