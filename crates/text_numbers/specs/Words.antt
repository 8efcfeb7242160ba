-- Words: decimal numbers and hexadecimal words, how they are read and how they are printed.
use Rattle.std.specs.Prelude.{ℕ, zero, suc, ◌+◌, ◌-◌, ◌*◌, ◌/◌, ◌%◌, ◌^◌}
use Rattle.std.specs.Prelude.{Bool, true, false, ◌&&◌, cond, [], ◌∷◌, ◌++◌, eqb, leb, ltb, length, Option, Some, None}
use Rattle.text_numbers.specs.Bytes.{Bytes}

-- ---- reading

-- the value of a digit 0-9, A-F or a-f, and 16 of any other byte
unfoldable pub digit : ℕ → ℕ
digit b =
    cond (leb 48 b && leb b 57) (b - 48)
    (cond (leb 65 b && leb b 70) (b - 55)
    (cond (leb 97 b && leb b 102) (b - 87) 16))

-- v, and decimal digits behind it: below 2^32 throughout
unfoldable pub decimal_from : ℕ → Bytes → Option ℕ
unfolding digit
decimal_from v [] = Some v
decimal_from v (b ∷ bs) =
    cond (ltb (digit b) 10) (cond (ltb (10 * v + digit b) (2 ^ 32)) (decimal_from (10 * v + digit b) bs) None) None

-- no digit at all, or a 0 before other digits
unfoldable pub spare : Bytes → Bool
spare [] = true
spare (b ∷ []) = false
spare (b ∷ (c ∷ bs)) = eqb b 48

-- a decimal number without spare zeros, below 2^32
unfoldable pub decimal_of : Bytes → Option ℕ
unfolding spare decimal_from
decimal_of w = cond (spare w) None (decimal_from 0 w)

-- v, and hexadecimal digits behind it
unfoldable pub hex_from : ℕ → Bytes → Option ℕ
unfolding digit
hex_from v [] = Some v
hex_from v (b ∷ bs) = cond (ltb (digit b) 16) (hex_from (16 * v + digit b) bs) None

-- 16 hexadecimal digits of either case
unfoldable pub hex_of : Bytes → Option ℕ
unfolding hex_from
hex_of w = cond (eqb (length w) 16) (hex_from 0 w) None

-- ---- printing

-- the character of a digit below 16, letters in lower case
unfoldable pub glyph : ℕ → ℕ
glyph d = cond (ltb d 10) (48 + d) (87 + d)

-- the last k digits of n in base b
unfoldable pub digits : ℕ → ℕ → ℕ → Bytes
unfolding glyph
digits b zero n = []
digits b (suc k) n = digits b k (n / b) ++ (glyph (n % b) ∷ [])

-- how many decimal digits n has, counting up to k
unfoldable pub places : ℕ → ℕ → ℕ
places zero n = 0
places (suc k) n = cond (ltb n 10) 1 (suc (places k (n / 10)))

-- n in decimal, without spare zeros. 20 digits are enough for any number of 64 bits
unfoldable pub decimal : ℕ → Bytes
unfolding digits places
decimal n = digits 10 (places 20 n) n

-- n in 16 hexadecimal digits
unfoldable pub hex : ℕ → Bytes
unfolding digits
hex n = digits 16 16 n
