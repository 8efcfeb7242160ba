-- Printing: the lines that a run's end is told in.
use Rattle.std.specs.Prelude.{ℕ, zero, suc, ◌*◌, ◌≤◌, List, [], ◌∷◌, ◌++◌, T, length, get_or, Ok, Err, Float}
use Rattle.std.specs.Float.{binary64}
use Rattle.std.specs.Float.Ieee.{to_bits}
use Rattle.complex.specs.declared.Complex.{Complex}
use Rattle.complex.specs.Entries.{entry}
use Rattle.refusals.specs.Refusals.{limit, number}
use Rattle.kron_reduction.specs.declared.KronReducer.{KronReducer}
use Rattle.kron_reduction.specs.Reducer.{sound}
use Rattle.kron_reduction.specs.Reading.{active_numbers}
use Rattle.reduce_text.specs.declared.read.Trouble.{Trouble}
use Rattle.reduce_text.specs.declared.read.Trouble.TheVariants.{RefusedDrop, BadLine}
use Rattle.text_numbers.specs.Bytes.{Bytes, ascii, line_feed, space}
use Rattle.text_numbers.specs.Words.{decimal, hex}
use Rattle.reduce_text.specs.Reading.{Run, End}

-- the bits of an f64, of a NaN 7ff8000000000000
abbrev pub to_word : Float → ℕ
to_word x = to_bits binary64 x

-- a keyword with its space, and a number
unfoldable pub number_line : Bytes → ℕ → Bytes
number_line key n = key ++ decimal n ++ (line_feed ∷ [])

-- the first n of the bus numbers
unfoldable pub bus_lines : ℕ → List ℕ → Bytes
bus_lines zero ks = []
bus_lines (suc n) ks = bus_lines n ks ++ number_line (ascii "bus ") (get_or ks n 0)

unfoldable pub entry_line : Complex → Bytes
entry_line c = hex (to_word c.re) ++ (space ∷ []) ++ hex (to_word c.im) ++ (line_feed ∷ [])

-- the first n entries of the slice
unfoldable pub entry_lines : ℕ → List Float → Bytes
entry_lines zero ys = []
entry_lines (suc n) ys = entry_lines n ys ++ entry_line (entry ys n)

-- the kept count, the number of each kept bus in row order, each entry between them
unfoldable pub kept_text : KronReducer → List Float → Bytes
kept_text r ys =
    number_line (ascii "kept ") r.n_buses ++ bus_lines r.n_buses (active_numbers r) ++ entry_lines (r.n_buses * r.n_buses) ys

-- the refusal's number and the bus
unfoldable pub refused_text : ℕ → ℕ → Bytes
refused_text f k = ascii "refused " ++ decimal f ++ number_line (space ∷ []) k

-- the line's place, from 1
unfoldable pub bad_text : ℕ → Bytes
bad_text p = number_line (ascii "bad line ") p

abbrev pub trouble_text : Trouble → Bytes
trouble_text (RefusedDrop f k) = refused_text (number f) k
trouble_text (BadLine p) = bad_text p

unfoldable pub text_of : End → KronReducer → List Float → Bytes
text_of (Ok u) r ys = kept_text r ys
text_of (Err t) r ys = trouble_text t

-- a sound record, and the entries between its buses are there
abbrev pub Whole : KronReducer → List Float → Type 0
Whole r ys = (r.made ≤ limit) × T (sound r) × (2 * (r.n_buses * r.n_buses) ≤ length ys)

unfoldable pub text : Run → Bytes
text R = text_of R.reading.end R.reading.rec R.numbers
