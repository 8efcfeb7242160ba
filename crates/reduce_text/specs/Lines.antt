-- Lines: how bytes are cut into lines, and the four forms of a line that `reduce` reads.
use Rattle.std.specs.Prelude.{ℕ, suc, Bool, true, false, ◌&&◌, cond, List, [], ◌∷◌, eqb, length, get_or, take, drop, Option, Some, None}
use Rattle.std.specs.Float.{binary64}
use Rattle.std.specs.Float.Ieee.{of_bits}
use Rattle.std.specs.Float.Ieee.Scale.{finite}
use Rattle.text_numbers.specs.Bytes.{Bytes, ascii, line_feed, space}
use Rattle.text_numbers.specs.Words.{decimal_of, hex_of}

-- ---- lines

-- a byte in front of the first line
abbrev pub in_front : ℕ → List Bytes → List Bytes
in_front b [] = (b ∷ []) ∷ []
in_front b (l ∷ ls) = (b ∷ l) ∷ ls

-- A line ends with a line feed. A last line without one counts; nothing behind the last line feed is no line.
unfoldable pub lines : Bytes → List Bytes
lines [] = []
lines (b ∷ bs) = cond (eqb b line_feed) ([] ∷ lines bs) (in_front b (lines bs))

-- how many bytes stand before the first line feed
unfoldable pub span : Bytes → ℕ
span [] = 0
span (b ∷ bs) = cond (eqb b line_feed) 0 (suc (span bs))

-- the line that starts at an index
unfoldable pub line_at : Bytes → ℕ → Bytes
unfolding span
line_at s at = take (span (drop at s)) (drop at s)

-- ---- the forms of a line

unfoldable pub starts_with : Bytes → Bytes → Bool
starts_with [] l = true
starts_with (k ∷ ks) [] = false
starts_with (k ∷ ks) (b ∷ bs) = eqb k b && starts_with ks bs

-- the decimal number behind a keyword and its space
unfoldable pub number_after : Bytes → Bytes → Option ℕ
number_after key l = cond (starts_with key l) (decimal_of (drop (length key) l)) None

-- `buses N`
abbrev pub buses_of : Bytes → Option ℕ
buses_of l = number_after (ascii "buses ") l

-- the number of a bus, and nothing else
abbrev pub number_of : Bytes → Option ℕ
number_of l = decimal_of l

-- `drop K`
abbrev pub drop_of : Bytes → Option ℕ
drop_of l = number_after (ascii "drop ") l

-- the 64 bits of a finite number: no infinity's and no NaN's
abbrev pub finite_word : ℕ → Bool
finite_word w = finite (of_bits binary64 w)

-- two words of finite numbers, or none
abbrev pub both : Option ℕ → Option ℕ → Option (ℕ × ℕ)
both (Some a) (Some b) = cond (finite_word a && finite_word b) (Some (a, b)) None
both (Some a) None = None
both None w = None

-- two words of 16 hexadecimal digits, each a finite number's, with one space between them: 33 bytes
unfoldable pub entry_of : Bytes → Option (ℕ × ℕ)
entry_of l =
    cond (eqb (length l) 33 && eqb (get_or l 16 0) space) (both (hex_of (take 16 l)) (hex_of (drop 17 l))) None
