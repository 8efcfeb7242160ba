-- One solve in the front of the work slice: it ends as its steps do, and its solution stands behind the system.
use Rattle.prelude.proofs.Prelude.{◌≡◌, refl, sym, ap, ◌∙◌, subst, Bool, false, true, List, ◌++◌, ℕ, ◌+◌, ◌*◌, ◌<◌, arith, T, length, get_or, Float, le-ltb}
use Rattle.binary64.specs.Values.{all_finite}
use Rattle.complex.specs.{Complex, entry, entry_at, grid}
use Rattle.complex.proofs.Matrices.{entry-grid}
use Rattle.complex.proofs.Sticky.{Finite}
use Rattle.complex.proofs.FiniteEntries.{AllFinite, slice-entries}
use Rattle.refusals.specs.Work.{computing}
use Rattle.std.proofs.Common.{Result, Ok}
use Rattle.refusals.specs.declared.Refusal.{Refusal}
use Rattle.solver.specs.GaussJordan.{augmented}
use Rattle.solver.specs.Solving.{operations, solve}
use Rattle.solver.specs.Steps.{steps_of_solve}
use Rattle.solver.specs.Inner.Work.{Ended, Met, right_sides}
use Rattle.solver.proofs.Solutions.{ended_is, solution-is, filled-finite}
use Rattle.ward_equivalent.specs.Ward.{y_ee, admittance}
use Rattle.ward_equivalent.specs.Steps.{steps_of_column, of_currents, steps_of_currents}
use Rattle.ward_equivalent.specs.Inner.Work.{Listing, work_row, work_matrix}
use Rattle.ward_equivalent.specs.Inner.Sequence.{solves_input, columns_input, external_part, external_column, external_currents, CurrentsApart}
use Rattle.ward_equivalent.proofs.Places.{listed_below}
use Rattle.ward_equivalent.proofs.Parts.{ended-numbers}
use Rattle.ward_equivalent.proofs.Tells.{currents-tell, currents-told}

-- the last column, taken out
pub taken-column : (e : ℕ) (ws vs : List Float) → vs ≡ grid e 1 (right_sides e (entry_at (e + 1) ws)) → (k : ℕ) → k < e → entry vs k ≡ entry_at (e + 1) ws k e
unfolding entry_at right_sides
taken-column e ws vs q k h =
    let at : k * 1 + 0 ≡ k = omega arith in
    let last : e + 0 ≡ e = omega arith in
    ap (entry vs) (sym at) ∙ ap (λ (l : List Float). entry_at 1 l k 0) q ∙ entry-grid e 1 (right_sides e (entry_at (e + 1) ws)) k 0 h (omega arith) ∙ ap (entry_at (e + 1) ws k) last

module _ (n : ℕ) (ys : List Float) (es : List ℕ) (listing : Listing n ys es) (given : T (all_finite ys)) where
  part-finite : AllFinite (length es) (length es) (external_part n ys es)
  part-finite i j x y = slice-entries n n ys listing.full given (get_or es i 0) (get_or es j 0) (listed_below n ys es listing i x) (listed_below n ys es listing j y)

  column-finite : (bus : ℕ) → bus < n → AllFinite (length es) 1 (λ (r k : ℕ). external_column n ys es bus r)
  column-finite bus h i j x y = slice-entries n n ys listing.full given (get_or es i 0) bus (listed_below n ys es listing i x) h

  module _ (b : ℕ → Complex) (ws : List Float) (set : (k j : ℕ) → k < length es → j < length es + 1 → entry_at (length es + 1) ws k j ≡ work_row n ys es k (b k) j) where
    pub set-beside : (k j : ℕ) → k < length es → j < length es + 1 → entry_at (length es + 1) ws k j ≡ augmented operations (length es) (external_part n ys es) (λ (r c : ℕ). b r) k j
    unfolding work_row augmented
    set-beside k j x y = set k j x y

    pub set-finite : length ws ≡ 2 * (length es * (length es + 1)) → AllFinite (length es) 1 (λ (r k : ℕ). b r) → T (all_finite ws)
    set-finite long h = filled-finite (length es) 1 (external_part n ys es) (λ (r c : ℕ). b r) ws set-beside long part-finite h

    module _ (allowed : ℕ) (end : Result ℕ Refusal) (after : List Float) (met : Met (length es) (length es + 1) allowed end ws after) where
      pub alone-ended : Ended allowed end (steps_of_solve (length es) (external_part n ys es) b)
      unfolding steps_of_solve
      alone-ended = ended_is (length es) 1 (external_part n ys es) (λ (r c : ℕ). b r) ws set-beside allowed end after met

      pub alone-solution : (left : ℕ) → end ≡ Ok left → (k : ℕ) → k < length es → entry_at (length es + 1) after k (length es) ≡ solve (length es) (external_part n ys es) b k
      unfolding right_sides
      alone-solution left d k h =
          let last : length es + 0 ≡ length es = omega arith in
          ap (entry_at (length es + 1) after k) (sym last) ∙ solution-is (length es) 1 (external_part n ys es) (λ (r c : ℕ). b r) ws set-beside allowed end after met left d k 0 h (omega arith)

  -- ---- the column of a bus

  module _ (bus : ℕ) (inside : bus < n) (ws : List Float)
      (set : (k j : ℕ) → k < length es → j < length es + 1 → entry_at (length es + 1) ws k j ≡ work_row n ys es k (entry_at n ys (get_or es k 0) bus) j) where
    pub column-set : length ws ≡ 2 * (length es * (length es + 1)) → T (all_finite ws)
    column-set long = set-finite (external_column n ys es bus) ws set long (column-finite bus inside)

    module _ (allowed : ℕ) (end : Result ℕ Refusal) (after : List Float) (met : Met (length es) (length es + 1) allowed end ws after) where
      pub column-ended : Ended allowed end (steps_of_column (columns_input n ys es) bus)
      unfolding steps_of_column y_ee admittance
      column-ended = alone-ended (external_column n ys es bus) ws set allowed end after met

      pub column-solution : (left : ℕ) → end ≡ Ok left → (k : ℕ) → k < length es → entry_at (length es + 1) after k (length es) ≡ solve (length es) (external_part n ys es) (external_column n ys es bus) k
      column-solution = alone-solution (external_column n ys es bus) ws set allowed end after met

  -- ---- the currents

  module _ (base : Float) (ps qs ws : List Float) (set : (k j : ℕ) → k < length es → j < length es + 1 → entry_at (length es + 1) ws k j ≡ work_matrix n ys es base ps qs k j)
      (long : length ws ≡ 2 * (length es * (length es + 1))) where
    row-set : (k j : ℕ) → k < length es → j < length es + 1 → entry_at (length es + 1) ws k j ≡ work_row n ys es k (external_currents base ps qs k) j
    unfolding work_matrix
    row-set k j x y = set k j x y

    -- a slice that is not finite has currents that are not
    pub currents-lost : all_finite ws ≡ false → all_finite (of_currents (solves_input n ys es base ps qs) (length es)) ≡ false
    currents-lost lost = pick (all_finite (of_currents (solves_input n ys es base ps qs) (length es))) refl
      where
        pick : (t : Bool) → all_finite (of_currents (solves_input n ys es base ps qs) (length es)) ≡ t → t ≡ false
        pick false h = refl
        pick true h =
            absurd (subst T lost (set-finite (external_currents base ps qs) ws row-set long λ (i j : ℕ) x y. currents-told (solves_input n ys es base ps qs) (length es) (subst T (sym h) tt) i x))

    behind-system : (k : ℕ) → work_row n ys es k (external_currents base ps qs k) (length es) ≡ external_currents base ps qs k
    unfolding work_row
    behind-system k = rw (le-ltb (length es) (length es) (omega arith))

    last_entry : (k : ℕ) → k < length es → entry_at (length es + 1) ws k (length es) ≡ external_currents base ps qs k
    last_entry k h = row-set k (length es) h (omega arith) ∙ behind-system k

    pub currents-ended : T (all_finite ws) → (allowed : ℕ) (end : Result ℕ Refusal) (after : List Float) → Met (length es) (length es + 1) allowed end ws after
        → Ended allowed end (computing (of_currents (solves_input n ys es base ps qs) (length es)) ++ steps_of_currents (solves_input n ys es base ps qs))
    unfolding steps_of_currents y_ee admittance
    currents-ended finite allowed end after met =
        ended-numbers allowed (of_currents (solves_input n ys es base ps qs) (length es)) _ end
        (currents-tell (solves_input n ys es base ps qs) (length es) λ (k : ℕ) (h : k < length es). subst Finite (last_entry k h) (slice-entries (length es) (length es + 1) ws long finite k (length es) h (omega arith)))
        (alone-ended (external_currents base ps qs) ws row-set allowed end after met)

    pub currents-solution : (allowed : ℕ) (end : Result ℕ Refusal) (after : List Float) → Met (length es) (length es + 1) allowed end ws after → (left : ℕ) → end ≡ Ok left → CurrentsApart n ys es base ps qs after
    currents-solution allowed end after met left d k h = alone-solution (external_currents base ps qs) ws row-set allowed end after met left d k h
