-- Numbers in bytes, the lowest byte first: whole numbers of k bytes each, and numbers of binary64 by the 8 bytes of their bits.
use Rattle.std.specs.Prelude.{ℕ, zero, suc, ◌+◌, ◌*◌, ◌/◌, ◌%◌, List, [], ◌∷◌, ◌++◌, map, get_or, Float}
use Rattle.std.proofs.lemmas.List.Edits.{sets}
use Rattle.std.specs.Float.{binary64}
use Rattle.std.specs.Float.Ieee.{of_bits, to_bits}
use Rattle.lists.specs.Buses.{up_to}

-- the number of the k bytes from place a on
unfoldable pub word : ℕ → List ℕ → ℕ → ℕ
word zero bs a = 0
word (suc k) bs a = get_or bs a 0 + 256 * word k bs (suc a)

-- the k lowest bytes of a number
unfoldable pub bytes_of : ℕ → ℕ → List ℕ
bytes_of zero w = []
bytes_of (suc k) w = w % 256 ∷ bytes_of k (w / 256)

-- bs with the number w in the k bytes from place a on
unfoldable pub put_word : ℕ → List ℕ → ℕ → ℕ → List ℕ
unfolding bytes_of
put_word k bs a w = sets bs a (bytes_of k w)

-- the first n numbers, of k bytes each
unfoldable pub words : ℕ → ℕ → List ℕ → List ℕ
unfolding word up_to
words k n bs = map (λ (i : ℕ). word k bs (k * i)) (up_to n)

-- numbers one after the other, in k bytes each
unfoldable pub of_words : ℕ → List ℕ → List ℕ
unfolding bytes_of
of_words k [] = []
of_words k (w ∷ ws) = bytes_of k w ++ of_words k ws

-- the first n numbers of binary64: every pattern of a NaN is the one NaN
abbrev pub floats : ℕ → List ℕ → List Float
floats n bs = map (of_bits binary64) (words 8 n bs)

-- numbers of binary64 one after the other: a NaN is 7ff8000000000000
abbrev pub of_floats : List Float → List ℕ
of_floats xs = of_words 8 (map (to_bits binary64) xs)
