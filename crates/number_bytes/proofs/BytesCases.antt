-- Numbers in bytes, computed; and what the premises of the round trips keep out.
use Rattle.prelude.proofs.Prelude.{◌≡◌, refl, [], ◌∷◌, nan, binary64, of_bits, to_bits}
use Rattle.lists.specs.Buses.{up_to}
use Rattle.number_bytes.specs.Bytes.{word, bytes_of, words, of_words, floats, of_floats}

-- the lowest byte stands first
pub low_first : bytes_of 4 0x01020304 ≡ 4 ∷ 3 ∷ 2 ∷ 1 ∷ []
unfolding bytes_of
low_first = refl

pub read-at-a-place : word 4 (9 ∷ 4 ∷ 3 ∷ 2 ∷ 1 ∷ 9 ∷ []) 1 ≡ 0x01020304
unfolding word
read-at-a-place = refl

pub two-words : words 8 2 (1 ∷ 0 ∷ 0 ∷ 0 ∷ 0 ∷ 0 ∷ 0 ∷ 0 ∷ 0 ∷ 1 ∷ 0 ∷ 0 ∷ 0 ∷ 0 ∷ 0 ∷ 0x80 ∷ []) ≡ 1 ∷ 0x8000000000000100 ∷ []
unfolding words word up_to
two-words = refl

-- 1.0, and the one pattern of a NaN
pub one-and-nan : of_floats (of_bits binary64 0x3ff0000000000000 ∷ nan ∷ []) ≡ 0 ∷ 0 ∷ 0 ∷ 0 ∷ 0 ∷ 0 ∷ 0xf0 ∷ 0x3f ∷ 0 ∷ 0 ∷ 0 ∷ 0 ∷ 0 ∷ 0 ∷ 0xf8 ∷ 0x7f ∷ []
unfolding of_words bytes_of of_bits to_bits
one-and-nan = refl

-- another pattern of a NaN is read as the same NaN
pub signaling-nan : floats 1 (1 ∷ 0 ∷ 0 ∷ 0 ∷ 0 ∷ 0 ∷ 0xf0 ∷ 0xff ∷ []) ≡ nan ∷ []
unfolding words word up_to of_bits
signaling-nan = refl

-- 256 does not come back from one byte, nor from a place that holds no byte
pub too_large : words 1 1 (of_words 1 (256 ∷ [])) ≡ 0 ∷ []
unfolding words word of_words bytes_of up_to
too_large = refl

pub no_byte : of_words 1 (words 1 1 (256 ∷ [])) ≡ 0 ∷ []
unfolding words word of_words bytes_of up_to
no_byte = refl
