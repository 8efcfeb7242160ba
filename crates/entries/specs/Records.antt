-- A reducer's record in a byte slice: the size at making and the present size in 8 bytes each, the rows of the active buses, a byte each,
-- and the numbers of the buses in 4 bytes each; of both as many places as the limit.
use Rattle.std.specs.Prelude.{ℕ, ◌+◌, ◌*◌, ◌&&◌, cond, List, [], ◌∷◌, ◌++◌, eqb, length, take, drop}
use Rattle.refusals.specs.Refusals.{limit}
use Rattle.kron_reduction.specs.declared.KronReducer.{KronReducer}
use Rattle.kron_reduction.specs.Reducer.{record_of}
use Rattle.number_bytes.specs.Bytes.{word, words, of_words}

-- the bytes before the numbers
abbrev pub front_bytes : ℕ
front_bytes = 16 + limit

-- the bytes of a record
abbrev pub record_bytes : ℕ
record_bytes = front_bytes + 4 * limit

-- the rows of the active buses
unfoldable pub active_in : List ℕ → List ℕ
active_in bs = take limit (drop 16 bs)

-- the numbers of the buses
unfoldable pub numbers_in : List ℕ → List ℕ
numbers_in bs = words 4 limit (drop front_bytes bs)

-- the record in a byte slice; of a slice of another length nothing is read, and the record is all zeros
unfoldable pub record_in : List ℕ → KronReducer
record_in bs =
    cond (eqb (length bs) record_bytes)
    (record { made = word 8 bs 0; n_buses = word 8 bs 8; active_buses = active_in bs; numbers = numbers_in bs })
    (record_of 0 [] [])

-- the size at making and the present size
abbrev pub sizes_of : KronReducer → List ℕ
sizes_of r = r.made ∷ r.n_buses ∷ []

-- the bytes of a record before its numbers, in their order
abbrev pub front_of : KronReducer → List ℕ
front_of r = of_words 8 (sizes_of r) ++ r.active_buses

-- all of them
abbrev pub in_bytes : KronReducer → List ℕ
in_bytes r = front_of r ++ of_words 4 r.numbers

-- the slice of a record after a call with refusal f: written where there is none, else untouched
unfoldable pub stored_record : ℕ → KronReducer → List ℕ → List ℕ
stored_record f r bs = cond (eqb f 0 && eqb (length bs) record_bytes) (in_bytes r) bs
