-- The conclusions of demand 3 say something: where its premises on chains or on a row's zeros fail, entries do change. The witnesses of claims and ward_claims,
-- each bus told by its row.
use Rattle.prelude.proofs.Prelude.{not, T, get_or, nan, eq}
use Rattle.complex.specs.{◌≈◌, entry_at}
use Rattle.binary64.specs.Values.{is_zero}
use Rattle.ward_equivalent.specs.Numbers.{after_compute, after_compute_extended}
use Rattle.claims.specs.Accounts.{left, entry_in}
use Rattle.ward_claims.specs.WardRows.{old}
use Rattle.claims.proofs.Witnesses.{opened, first, first-calls, a}
use Rattle.claims.proofs.SecondWitness.{second, second-calls}
use Rattle.ward_claims.proofs.WardWitness.{studied, N, S, eight, o, NX, wide}

-- a chain joins bus 4 to bus 0 (claims!Witnesses `long-chain`), and the entry there, which was 0, is not
fills-in : entry_in (left first first-calls) 1 0 ≈ a.old 4 0 → ⊥
unfolding opened
fills-in e = e.0

-- bus 4 has chains into the group and out of it, and its own entry is not the same in both
entries-differ : entry_in (left first first-calls) 1 1 ≈ entry_in (left second second-calls) 1 1 → ⊥
unfolding opened
entries-differ e = e.0

-- row 2 of the study, of bus 2: its own entry was 2^501 and is about two thirds of it, and P was 0 and is 1
changes : T (not (eq (entry_at 3 (after_compute N eight o).outputs.y-ward 2 2).re (old S 2 2).re)) × T (not (is_zero (get_or (after_compute N eight o).outputs.p-ward 1 nan)))
unfolding studied
changes = (tt, tt)

-- and in the extended study it gets a correction
changes-x : T (not (is_zero (get_or (after_compute_extended NX eight wide).outputs.correction 1 nan)))
unfolding studied
changes-x = tt
