-- What the size and the lengths tell of a Ward study: 1, 2 or 3, else what comes after. `Lengths` is the struct of src/lengths.rt: `size`
-- in buses, every other field the length of the list or slice of its name.
use Rattle.std.specs.Prelude.{ℕ, ◌+◌, ◌*◌, Bool, not, ◌||◌, eqb, ltb}
use Rattle.refusals.specs.Refusals.{limit, too_many, wrong_length, lists_differ, refuse}
use Rattle.ward_equivalent.specs.declared.lengths.Lengths.{Lengths}

-- 1: more buses than the limit, or a list longer than it
unfoldable pub over_limit : Lengths → Bool
over_limit l =
    ltb limit l.size || ltb limit l.numbers
    || ltb limit l.internal || ltb limit l.external || ltb limit l.boundary
    || ltb limit l.p_ext || ltb limit l.q_ext || ltb limit l.v_ext

-- 2: a slice not of its exact length, or not one number a bus; r buses are retained
unfoldable pub wrong_lengths : Lengths → Bool
wrong_lengths l =
    let r = l.internal + l.boundary in
    not (eqb l.given (2 * (l.size * l.size))) || not (eqb l.numbers l.size)
    || not (eqb l.y_ward (2 * (r * r)))
    || not (eqb l.p_ward l.boundary) || not (eqb l.q_ward l.boundary)
    || not (eqb l.correction l.boundary) || not (eqb l.compensation l.boundary)
    || not (eqb l.work (2 * (l.external * (l.external + r + 1))))

-- 3: injections or voltages that don't match the external list
unfoldable pub unmatched : Lengths → Bool
unmatched l = not (eqb l.p_ext l.external) || not (eqb l.q_ext l.external) || not (eqb l.v_ext l.external)

unfoldable pub length_refusal : Lengths → ℕ → ℕ
unfolding over_limit wrong_lengths unmatched
length_refusal l next = refuse (over_limit l) too_many (refuse (wrong_lengths l) wrong_length (refuse (unmatched l) lists_differ next))
