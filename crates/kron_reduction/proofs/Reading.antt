-- What `reduced_matrix` answers and leaves, from the tests that the code makes.
use Rattle.std.proofs.Common.{Ok, Err}
use Rattle.prelude.proofs.Prelude.{◌≡◌, refl, sym, ap, ◌∙◌, not, List, ◌++◌, ℕ, ◌-◌, ◌*◌, eqb, ltb, length, take, Float}
use Rattle.complex.specs.{zeros}
use Rattle.refusals.proofs.Answering.{held-refused, passed, accepting}
use Rattle.refusals.proofs.Numbers.{given-none}
use Rattle.refusals.specs.declared.Refusal.{Refusal}
use Rattle.refusals.specs.Refusals.{limit, answered, outcome}
use Rattle.kron_reduction.specs.declared.KronReducer.{KronReducer}
use Rattle.kron_reduction.specs.Reducer.{active_of, present, input_shape_refusal, state_of, row_major, state_in}
use Rattle.kron_reduction.specs.Inner.Removal.{Holds}
use Rattle.kron_reduction.specs.Reading.{reading_shape_refusal, reading_refusal, after_matrix}
use Rattle.kron_reduction.proofs.Showing.{shown-shows}
use Rattle.kron_reduction.proofs.Taking.{holds-long}
use Rattle.kron_reduction.proofs.Calls.{shaped-has, shaped-holds, stored-front}

-- ---- the input refusals

module _ (per : ℕ) (r : KronReducer) (ys : List Float) (m : ℕ) where
  pub reading-accepted : reading_shape_refusal per r ys m ≡ 0 → (m ≡ per * (r.made * r.made)) × (input_shape_refusal r ys 0 ≡ 0)
  unfolding reading_shape_refusal
  reading-accepted e =
      let (size, e2) = passed (ltb limit r.made) 0 _ e in
      let (room, rest) = passed (not (eqb m (per * (r.made * r.made)))) 1 _ e2 in
      search accepting

  pub reading-shaped : reading_refusal per r ys m ≡ 0 → reading_shape_refusal per r ys m ≡ 0
  unfolding reading_refusal
  reading-shaped e = (given-none (reading_shape_refusal per r ys m) (present r ys) e).0

  -- what the test of the numbers may use
  pub reading-holds : reading_shape_refusal per r ys m ≡ 0 → length r.active_buses ≡ limit → Holds r ys
  reading-holds e long = shaped-holds r ys 0 long (reading-accepted e).1

-- ---- the answer

pub stored-now : (r : KronReducer) (ys : List Float) → length ys ≡ 2 * (r.made * r.made) → Holds r ys
    → take (2 * (r.n_buses * r.n_buses)) ys ++ zeros (length ys - 2 * (r.n_buses * r.n_buses)) ≡ row_major (2 * (r.made * r.made)) (active_of r) (state_of r ys).entries
unfolding state_of
stored-now r ys long h =
    let e : length (active_of r) ≡ r.n_buses = holds-long r ys h in
    stored-front (state_in r.n_buses (active_of r) ys) r.n_buses (length ys) ys e (shown-shows r.n_buses (active_of r) ys h.rises e) refl h.fits
    ∙ ap (λ (len : ℕ). row_major len (active_of r) (state_of r ys).entries) long

module _ (r : KronReducer) (ys os : List Float) where
  pub matrix-refused : (f : Refusal) → Err f ≡ outcome (reading_refusal 2 r ys (length os)) → (Err f ≡ (after_matrix r ys os).answer) × (os ≡ (after_matrix r ys os).out)
  unfolding after_matrix
  matrix-refused f e = (e, held-refused (tt {0}) (reading_refusal 2 r ys (length os)) _ os f e)

  -- the rows that `copy_to` may copy
  pub matrix-holds : reading_refusal 2 r ys (length os) ≡ 0 → length r.active_buses ≡ limit → Holds r ys
  matrix-holds e long = reading-holds 2 r ys (length os) (reading-shaped 2 r ys (length os) e) long

  pub matrix-same : reading_refusal 2 r ys (length os) ≡ 0 → length os ≡ length ys
  matrix-same e = let h = reading-accepted 2 r ys (length os) (reading-shaped 2 r ys (length os) e) in h.0 ∙ sym (shaped-has r ys 0 h.1).slice

  pub matrix-done : (e : reading_refusal 2 r ys (length os) ≡ 0) → length r.active_buses ≡ limit → (zs : List Float)
      → zs ≡ take (2 * (r.n_buses * r.n_buses)) ys ++ zeros (length ys - 2 * (r.n_buses * r.n_buses))
      → (Ok tt ≡ (after_matrix r ys os).answer) × (zs ≡ (after_matrix r ys os).out)
  unfolding after_matrix answered
  matrix-done e long zs filled = rw e (refl, filled ∙ rows_of)
    where
      h : Holds r ys
      h = matrix-holds e long

      rows_of : take (2 * (r.n_buses * r.n_buses)) ys ++ zeros (length ys - 2 * (r.n_buses * r.n_buses)) ≡ row_major (2 * (r.made * r.made)) (active_of r) (state_of r ys).entries
      rows_of = stored-now r ys (shaped-has r ys 0 (reading-accepted 2 r ys (length os) (reading-shaped 2 r ys (length os) e)).1).slice h
