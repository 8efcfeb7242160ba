-- A Ward study as the calls take it: its lists name buses by number. What `compute` and `compute_extended` answer and leave, for every
-- input.
use Rattle.std.specs.Prelude.{ℕ, not, ◌||◌, List, ◌++◌, T, eqb, length, Float}
use Rattle.refusals.specs.declared.Allowance.{Allowance}
use Rattle.refusals.specs.Refusals.{no_such_bus, bus_twice, refuse, then_given}
use Rattle.refusals.specs.Work.{then_work}
use Rattle.lists.specs.Buses.{repeats, within, rows_in}
use Rattle.ward_equivalent.specs.declared.lengths.Lengths.{Lengths}
use Rattle.ward_equivalent.specs.Lengths.{length_refusal}
use Rattle.ward_equivalent.specs.Ward.{Study, Outputs, given_of, listed, externals}
use Rattle.ward_equivalent.specs.Extended.{ExtendedStudy, ExtendedOutputs}
use Rattle.ward_equivalent.specs.Steps.{steps_of, steps_of_extended}
use Rattle.ward_equivalent.specs.Studied.{AfterWard, studied, AfterExtended, studied_extended}

-- the number of each row's bus, and a study whose lists hold numbers
pub record NumberedStudy : Type 0 where
  pub numbers : List ℕ
  pub study : Study

abbrev pub numbered_of : List ℕ → Study → NumberedStudy
numbered_of ns S = record { numbers = ns; study = S }

-- the study with each bus as its row; a number that no row has becomes the count of rows
unfoldable pub in_rows : NumberedStudy → Study
unfolding rows_in
in_rows N =
    let S = N.study in
    let rows = rows_in N.numbers in
    record {
      size = S.size;
      given = S.given;
      internal = rows S.internal;
      external = rows S.external;
      boundary = rows S.boundary;
      base = S.base;
      p-ext = S.p-ext;
      q-ext = S.q-ext;
    }

-- ---- told from the input

-- A study without voltages has neither corrections nor compensations. It is measured with as many voltages as external buses, and with as
-- many corrections and compensations as boundary buses, so that these three tests refuse nothing.
abbrev pub lengths_of : NumberedStudy → Outputs → Lengths
lengths_of N o =
    let S = N.study in
    record {
      size = S.size;
      given = length S.given;
      numbers = length N.numbers;
      internal = length S.internal;
      external = externals S;
      boundary = length S.boundary;
      p_ext = length S.p-ext;
      q_ext = length S.q-ext;
      v_ext = externals S;
      y_ward = length o.y-ward;
      p_ward = length o.p-ward;
      q_ward = length o.q-ward;
      correction = length S.boundary;
      compensation = length S.boundary;
      work = length o.work;
    }

-- of the numbers ns and the listed buses ks. 7: a bus outside the numbers. 8: a number that stands twice, or a bus listed twice, in one
-- list or in two
unfoldable pub bus_refusal : List ℕ → List ℕ → ℕ
unfolding repeats within
bus_refusal ns ks = refuse (not (within ns ks)) no_such_bus (refuse (repeats ns || repeats ks) bus_twice 0)

-- by lengths and lists: 1, 2, 3, 7, 8 or 0
unfoldable pub ward_shape_refusal : NumberedStudy → Outputs → ℕ
unfolding length_refusal listed bus_refusal
ward_shape_refusal N o = length_refusal (lengths_of N o) (bus_refusal N.numbers (listed N.study))

-- and last 19: a number given is not finite, also where no bus is external
unfoldable pub ward_refusal : NumberedStudy → Outputs → ℕ
unfolding ward_shape_refusal then_given given_of
ward_refusal N o = then_given (ward_shape_refusal N o) (given_of N.study)

abbrev pub AcceptedStudy : NumberedStudy → Allowance → Outputs → Type 0
AcceptedStudy N a o = T (eqb (then_work (ward_refusal N o) a (steps_of (in_rows N))) 0)

-- ---- the calls

-- the allowance is of row reductions, over all solves of the study
unfoldable pub after_compute : NumberedStudy → Allowance → Outputs → AfterWard
unfolding in_rows ward_refusal studied
after_compute N a o = studied (in_rows N) a o (ward_refusal N o)

-- with the voltages at the external buses, per unit
pub record NumberedExtended : Type 0 where
  pub study : NumberedStudy
  pub v-ext : List Float

abbrev pub numbered_extended_of : NumberedStudy → List Float → NumberedExtended
numbered_extended_of N vs = record { study = N; v-ext = vs }

unfoldable pub extended_in_rows : NumberedExtended → ExtendedStudy
unfolding in_rows
extended_in_rows X = record { study = in_rows X.study; v-ext = X.v-ext }

abbrev pub extended_lengths_of : NumberedExtended → ExtendedOutputs → Lengths
extended_lengths_of X o =
    let l = lengths_of X.study o.outputs in
    record {
      size = l.size;
      given = l.given;
      numbers = l.numbers;
      internal = l.internal;
      external = l.external;
      boundary = l.boundary;
      p_ext = l.p_ext;
      q_ext = l.q_ext;
      v_ext = length X.v-ext;
      y_ward = l.y_ward;
      p_ward = l.p_ward;
      q_ward = l.q_ward;
      correction = length o.correction;
      compensation = length o.compensation;
      work = l.work;
    }

unfoldable pub extended_shape_refusal : NumberedExtended → ExtendedOutputs → ℕ
unfolding length_refusal listed bus_refusal
extended_shape_refusal X o = length_refusal (extended_lengths_of X o) (bus_refusal X.study.numbers (listed X.study.study))

unfoldable pub extended_refusal : NumberedExtended → ExtendedOutputs → ℕ
unfolding extended_shape_refusal then_given given_of
extended_refusal X o = then_given (extended_shape_refusal X o) (given_of X.study.study ++ X.v-ext)

abbrev pub AcceptedExtended : NumberedExtended → Allowance → ExtendedOutputs → Type 0
AcceptedExtended X a o = T (eqb (then_work (extended_refusal X o) a (steps_of_extended (extended_in_rows X))) 0)

unfoldable pub after_compute_extended : NumberedExtended → Allowance → ExtendedOutputs → AfterExtended
unfolding extended_in_rows extended_refusal studied_extended
after_compute_extended X a o = studied_extended (extended_in_rows X) a o (extended_refusal X o)
