-- A study on one list of rows: what is known of its slices, and the equivalent that its solutions give.
use Rattle.std.specs.Prelude.{ℕ, zero, suc, ◌+◌, ◌*◌, ◌-◌, ◌≤◌, ◌<◌, ◌≡◌, List, [], map, T, length, get_or, take, drop, Float, Ok}
use Rattle.std.specs.Float.Ieee.Scale.{finite}
use Rattle.refusals.specs.Refusals.{refusal}
use Rattle.complex.specs.Matrices.{grid, zeros}
use Rattle.refusals.specs.declared.Refusal.{Refusal}
use Rattle.refusals.specs.declared.Refusal.TheVariants.{ComputedNotFinite}
use Rattle.ward_equivalent.specs.declared.study.Held.{Held}
use Rattle.ward_equivalent.specs.Arithmetic.{injected_p, injected_q}
use Rattle.ward_equivalent.specs.Ward.{Study, Outputs, ratio}
use Rattle.ward_equivalent.specs.Studied.{AfterWard}
use Rattle.ward_equivalent.specs.Extended.{ExtendedStudy, weight_sum, weighted_sum, voltage_correction, q_compensation}
use Rattle.ward_equivalent.specs.Calls.{study_of}
use Rattle.ward_equivalent.specs.Inner.Work.{product_to, product, less_product}

-- ---- a study whose lists are right, the external buses first, then the internal, then the boundary ones

-- the first e buses are external, those from f on boundary
abbrev pub cut : ℕ → List Float → List ℕ → ℕ → ℕ → Float → List Float → List Float → Study
cut n ys bs e f base ps qs = study_of n ys (take (f - e) (drop e bs)) (take e bs) (drop f bs) base ps qs

-- the slices that are written, where k buses are listed
pub record StudySlices (k e f : ℕ) (o : Outputs) : Type 0 where
  pub y-ward : length o.y-ward ≡ 2 * ((k - e) * (k - e))
  pub p-ward : length o.p-ward ≡ k - f
  pub q-ward : length o.q-ward ≡ k - f
  pub work : length o.work ≡ 2 * (e * (k + 1))

-- where a slice of this length holds the solutions of e external buses of k listed ones
pub record HeldIn (k e : ℕ) (held : Held) (long : ℕ) : Type 0 where
  pub start : held.start + 2 * (e * held.v) ≡ long
  pub columns : held.first + (k - e) ≤ held.v
  pub fit : held.end ≤ long
  pub end : held.end ≡ 2 * (e * held.w)
  pub column : held.c < held.w

-- The equivalent that the work slice holds, as answer and slices: X in the columns from `first` on of xs, rows of v entries, and the
-- currents' solution in column c of ws, rows of w.
unfoldable pub outputs_from : ℕ → List Float → List ℕ → ℕ → ℕ → Float → ℕ → ℕ → List Float → ℕ → ℕ → List Float → ℕ → ℕ → AfterWard
unfolding less_product product_to injected_p injected_q ratio zeros
outputs_from n ys bs e f base reduced long xs v first ws w c =
    let es = take e bs in
    let r = length bs - e in
    record {
      answer = Ok (record { n_buses_reduced = n; n_buses_equivalent = r; reduction_ratio = ratio r n; rows_reduced = reduced });
      outputs = record {
        y-ward = grid r r (λ (p : ℕ). less_product n ys es (drop e bs) v xs first (get_or (drop e bs) p 0));
        p-ward = map (λ (i : ℕ). injected_p base (product n ys es w ws i c)) (drop f bs);
        q-ward = map (λ (i : ℕ). injected_q base (product n ys es w ws i c)) (drop f bs);
        work = zeros long;
      };
    }

-- ---- extended

-- the refusal of a study whose corrections are not finite, by what its own work meets
unfoldable pub uncorrected_answer : ℕ → Refusal
uncorrected_answer zero = ComputedNotFinite
uncorrected_answer (suc k) = refusal (suc k)

abbrev pub extended_of : Study → List Float → ExtendedStudy
extended_of S vs = record { study = S; v-ext = vs }

-- what the formulas of the correction read: a matrix, the external buses, their voltages and the base
abbrev pub correction_input : ℕ → List Float → List ℕ → List Float → Float → ExtendedStudy
correction_input n ys es vs base = extended_of (study_of n ys [] es [] base [] []) vs

-- the sums of boundary bus i, and their mean; they tell of every number on the way
pub record CorrectionFinite (X : ExtendedStudy) (i : ℕ) : Type 0 where
  pub weights : T (finite (weight_sum X i))
  pub weighted : T (finite (weighted_sum X i))
  pub correction : T (finite (voltage_correction X i))
  pub compensation : T (finite (q_compensation X i))
