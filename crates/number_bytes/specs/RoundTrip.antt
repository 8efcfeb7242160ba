-- Numbers and their bytes undo each other: what is kept as bytes is not lost.
use Rattle.std.specs.Prelude.{ℕ, ◌*◌, ◌^◌, ◌<◌, ◌≡◌, List, length, get_or, Float}
use Rattle.binary64.specs.Values.{F64s}
use Rattle.number_bytes.specs.Bytes.{words, floats, of_words, of_floats}

-- each is below m: a byte below 256, a number of k bytes below 256 ^ k
abbrev pub Below : ℕ → List ℕ → Type 0
Below m xs = (i : ℕ) → get_or xs i 0 < m

pub record RoundTrip : Type 1 where
  -- numbers of k bytes come back from their bytes
  pub words_back : (k : ℕ) (ws : List ℕ) → Below (256 ^ k) ws → words k (length ws) (of_words k ws) ≡ ws
  -- so do numbers of binary64; a NaN is one NaN
  pub floats-back : (xs : List Float) → F64s xs → floats (length xs) (of_floats xs) ≡ xs
  -- bytes come back from their numbers
  pub bytes_back : (k n : ℕ) (bs : List ℕ) → Below 256 bs → length bs ≡ k * n → of_words k (words k n bs) ≡ bs
