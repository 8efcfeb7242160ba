-- A study whose buses are named by number: what its lengths and numbers refuse, and that what they let through is the study on rows.
use Rattle.prelude.proofs.Prelude.{◌≡◌, refl, sym, ap, ◌∙◌, subst, Bool, true, false, not, ◌||◌, List, ◌++◌, ℕ, ◌+◌, ◌-◌, ◌*◌, ◌≤◌, arith, T, length, length-append, Float}
use Rattle.refusals.specs.Refusals.{limit}
use Rattle.refusals.specs.declared.Allowance.{Allowance}
use Rattle.binary64.specs.Values.{all_finite}
use Rattle.refusals.specs.Refusals.{refuse, then_given}
use Rattle.refusals.specs.Work.{then_work}
use Rattle.lists.specs.Buses.{all_below, repeats, within, rows_in}
use Rattle.lists.proofs.Lookups.{length-rows_in}
use Rattle.lists.proofs.Naming.{rows_in-append, below-within, repeats-rows}
use Rattle.std.proofs.Common.{Ok, Err}
use Rattle.refusals.specs.declared.Refusal.{Refusal}
use Rattle.refusals.specs.declared.Refusal.TheVariants.{TooMany, WrongLength, ListsDiffer, NoSuchBus, BusTwice, GivenNotFinite}
use Rattle.refusals.specs.Refusals.{answered, outcome, number, number_of}
use Rattle.refusals.proofs.Answering.{answered-number, accepted, Told, told-refuse}
use Rattle.ward_equivalent.specs.declared.lengths.Lengths.{Lengths}
use Rattle.ward_equivalent.specs.Lengths.{over_limit, wrong_lengths, unmatched, length_refusal}
use Rattle.ward_equivalent.specs.Ward.{Study, Outputs, given_of, externals}
use Rattle.ward_equivalent.specs.Studied.{summary, outputs_after, work_after, studied}
use Rattle.ward_equivalent.specs.Extended.{ExtendedStudy, ExtendedOutputs}
use Rattle.ward_equivalent.specs.Studied.{extended_outputs_after, studied_extended}
use Rattle.ward_equivalent.specs.Calls.{after_ward, after_extended}
use Rattle.ward_equivalent.specs.Inner.Work.{Listing}
use Rattle.ward_equivalent.specs.Inner.Listed.{cut, StudySlices}
use Rattle.ward_equivalent.specs.Numbers.{NumberedStudy, NumberedExtended, lengths_of, extended_lengths_of, in_rows, extended_in_rows, bus_refusal, ward_shape_refusal, ward_refusal, extended_shape_refusal, extended_refusal, after_compute, after_compute_extended}
use Rattle.ward_equivalent.proofs.Buses.{distinct-length, cut-joined}
use Rattle.solver.proofs.Told.{some_number}
use Rattle.ward_equivalent.proofs.Studied.{numbered}
use Rattle.ward_equivalent.proofs.Told.{Fitting, lengths-refuse, lengths-pass}

-- ---- 7, 8 or none

pub bus-most : (ns ks : List ℕ) → bus_refusal ns ks ≤ 8
unfolding bus_refusal
bus-most ns ks = most (not (within ns ks)) (repeats ns || repeats ks)
  where
    most : (w r : Bool) → refuse w 7 (refuse r 8 0) ≤ 8
    most true r = omega arith
    most false true = omega arith
    most false false = omega arith

none : (w p q : Bool) → refuse (not w) 7 (refuse (p || q) 8 0) ≡ 0 → (w ≡ true) × (q ≡ false)
none true true q h = absurd (omega arith)
none true false true h = absurd (omega arith)
none true false false h = (refl, refl)
none false p q h = absurd (omega arith)

bus-none : (ns ks : List ℕ) → bus_refusal ns ks ≡ 0 → (within ns ks ≡ true) × (repeats ks ≡ false)
unfolding bus_refusal
bus-none ns ks h = none (within ns ks) (repeats ns) (repeats ks) h

-- ---- the rows of the listed buses

pub rows-fine : (ns ks : List ℕ) (n : ℕ) (L : List ℕ) → length ns ≡ n → bus_refusal ns ks ≡ 0 → L ≡ rows_in ns ks → T (all_below n L) × (repeats L ≡ false)
rows-fine ns ks n L l z e =
    let (w, d) = bus-none ns ks z in
    let below : all_below n L ≡ true = ap (all_below n) e ∙ ap (λ (m : ℕ). all_below m (rows_in ns ks)) (sym l) ∙ below-within ns ks ∙ w in
    (subst T (sym below) tt, ap repeats e ∙ repeats-rows ns ks (subst T (sym w) tt) ∙ d)

rows_long : (N : NumberedStudy) (L : List ℕ) → L ≡ rows_in N.numbers (N.study.external ++ (N.study.internal ++ N.study.boundary))
    → length L ≡ externals N.study + (length N.study.internal + length N.study.boundary)
rows_long N L e =
    let S = N.study in
    ap length e ∙ length-rows_in N.numbers (S.external ++ (S.internal ++ S.boundary)) ∙ length-append S.external (S.internal ++ S.boundary)
    ∙ ap (λ (m : ℕ). externals S + m) (length-append S.internal S.boundary)

-- those behind the external and the internal buses
pub rows-boundary : (N : NumberedStudy) (L : List ℕ) → L ≡ rows_in N.numbers (N.study.external ++ (N.study.internal ++ N.study.boundary))
    → length N.study.boundary ≡ length L - (externals N.study + length N.study.internal)
rows-boundary N L e = omega (arith, rows_long N L e)

-- what fits with voltages fits without
pub without : (X : NumberedExtended) (o : ExtendedOutputs) → Fitting (extended_lengths_of X o) → Fitting (lengths_of X.study o.outputs)
without X o F =
    let f = F.few in
    record {
      few = record { size = f.size; internal = f.internal; external = f.external; boundary = f.boundary };
      given = F.given;
      numbers = F.numbers;
      y-ward = F.y-ward;
      p-ward = F.p-ward;
      q-ward = F.q-ward;
      correction = refl;
      compensation = refl;
      work = F.work;
      p-ext = F.p-ext;
      q-ext = F.q-ext;
      v-ext = refl;
    }

-- a study on one list of rows, and its slices
pub record CheckedStudy (n : ℕ) (ys : List Float) (bs : List ℕ) (e f : ℕ) (ps qs : List Float) (o : Outputs) : Type 0 where
  pub listing : Listing n ys bs
  pub few : n ≤ limit
  pub distinct : length bs ≤ n
  pub first : e ≤ f
  pub last : f ≤ length bs
  pub p_each : length ps ≡ e
  pub q_each : length qs ≡ e
  pub finite : T (all_finite ys)
  pub slices : StudySlices (length bs) e f o

pub rows-listed : (N : NumberedStudy) (o : Outputs) (L : List ℕ) → Fitting (lengths_of N o) → T (all_finite N.study.given) → bus_refusal N.numbers (N.study.external ++ (N.study.internal ++ N.study.boundary)) ≡ 0
    → L ≡ rows_in N.numbers (N.study.external ++ (N.study.internal ++ N.study.boundary))
    → CheckedStudy N.study.size N.study.given L (externals N.study) (externals N.study + length N.study.internal) N.study.p-ext N.study.q-ext o
rows-listed N o L F finite z e =
    let S = N.study in let ns = N.numbers in let E = S.external in let I = S.internal in let B = S.boundary in
    let ks = E ++ (I ++ B) in
    let (inside, distinct) = rows-fine ns ks S.size L F.numbers z e in
    let long = rows_long N L e in
    let r : length I + length B ≡ length L - length E = omega (arith, long) in
    let t = rows-boundary N L e in
    record {
      listing = record { full = F.given; below = inside };
      few = F.few.size;
      distinct = distinct-length S.size L inside distinct;
      first = omega arith;
      last = omega (arith, long);
      p_each = F.p-ext;
      q_each = F.q-ext;
      finite = finite;
      slices = record {
        y-ward = F.y-ward ∙ ap (λ (m : ℕ). 2 * (m * m)) r;
        p-ward = F.p-ward ∙ t;
        q-ward = F.q-ward ∙ t;
        work = F.work ∙ ap (λ (m : ℕ). 2 * (length E * (m + 1))) (sym long);
      };
    }

pub cut-rows : (N : NumberedStudy) (L : List ℕ) → L ≡ rows_in N.numbers (N.study.external ++ (N.study.internal ++ N.study.boundary))
    → cut N.study.size N.study.given L (externals N.study) (externals N.study + length N.study.internal) N.study.base N.study.p-ext N.study.q-ext ≡ in_rows N
unfolding in_rows
cut-rows N L h =
    let S = N.study in let ns = N.numbers in
    let E = rows_in ns S.external in
    let I = rows_in ns S.internal in
    let B = rows_in ns S.boundary in
    let joined : L ≡ E ++ (I ++ B) = h ∙ rows_in-append ns S.external (S.internal ++ S.boundary) ∙ ap (λ (l : List ℕ). E ++ l) (rows_in-append ns S.internal S.boundary) in
    ap (λ (l : List ℕ). cut S.size S.given l (externals S) (externals S + length S.internal) S.base S.p-ext S.q-ext) joined
    ∙ ap (λ (m : ℕ). cut S.size S.given (E ++ (I ++ B)) m (m + length S.internal) S.base S.p-ext S.q-ext) (sym (length-rows_in ns S.external))
    ∙ ap (λ (m : ℕ). cut S.size S.given (E ++ (I ++ B)) (length E) (length E + m) S.base S.p-ext S.q-ext) (sym (length-rows_in ns S.internal))
    ∙ cut-joined S.size S.given E I B S.base S.p-ext S.q-ext

-- ---- an input refusal leaves every slice as it was

refused : (S : Study) (a : Allowance) (o : Outputs) (r : Refusal) → after_ward (Err r) o.y-ward o.p-ward o.q-ward o.work ≡ studied S a o (number r)
unfolding studied then_work outputs_after work_after
refused S a o r = simp (numbered r, answered-number (summary S) r)

refused_x : (X : ExtendedStudy) (a : Allowance) (o : ExtendedOutputs) (r : Refusal) → after_extended (Err r) o.outputs o.correction o.compensation ≡ studied_extended X a o (number r)
unfolding studied_extended then_work extended_outputs_after outputs_after work_after
refused_x X a o r = simp (numbered r, answered-number (summary X.study) r)

-- ---- told by the lengths, then by the numbers and the lists

-- what a part of the call answered tells the number
number-told : (f : ℕ) → Told f → (r : Refusal) → Err r ≡ outcome f → number r ≡ f
number-told f t r e = ap number_of e ∙ t

pub told-lengths : (l : Lengths) (next : ℕ) → Told next → Told (length_refusal l next)
unfolding length_refusal
told-lengths l next t = told-refuse (over_limit l) TooMany _ (told-refuse (wrong_lengths l) WrongLength _ (told-refuse (unmatched l) ListsDiffer next t))

pub told-buses : (ns ks : List ℕ) → Told (bus_refusal ns ks)
unfolding bus_refusal answered
told-buses ns ks = told-refuse (not (within ns ks)) NoSuchBus _ (told-refuse (repeats ns || repeats ks) BusTwice 0 refl)

pub lengths-passed : (l : Lengths) (v : Unit {0}) → Ok v ≡ outcome (length_refusal l 0) → length_refusal l 0 ≡ 0
lengths-passed l v e = (accepted (tt {0}) tt _ v e).0

module _ (l : Lengths) (ns ks : List ℕ) where
  -- 1, 2, 3
  pub told-first : (r : Refusal) → Err r ≡ outcome (length_refusal l 0) → number r ≡ length_refusal l (bus_refusal ns ks)
  unfolding answered
  told-first r e =
      let told = number-told (length_refusal l 0) (told-lengths l 0 refl) r e in
      told ∙ sym ((lengths-refuse l (λ (z : length_refusal l 0 ≡ 0). some_number (Err r) refl (told ∙ z))).whatever (bus_refusal ns ks))

  -- 7, 8
  pub told-then : length_refusal l 0 ≡ 0 → (r : Refusal) → Err r ≡ outcome (bus_refusal ns ks) → number r ≡ length_refusal l (bus_refusal ns ks)
  told-then z r e = let (p, _) = lengths-pass l 0 z in number-told (bus_refusal ns ks) (told-buses ns ks) r e ∙ sym (p.on (bus_refusal ns ks))

  -- or none
  pub told_none : length_refusal l 0 ≡ 0 → bus_refusal ns ks ≡ 0 → 0 ≡ length_refusal l (bus_refusal ns ks)
  told_none z w = let (p, _) = lengths-pass l 0 z in sym w ∙ sym (p.on (bus_refusal ns ks))

-- ---- then by the numbers given

given-after : (r : Refusal) (told : ℕ) (xs : List Float) → number r ≡ told → number r ≡ then_given told xs
unfolding then_given
given-after r told xs e = simp (sym e, numbered r)

given-not : (told : ℕ) (xs : List Float) → 0 ≡ told → all_finite xs ≡ false → 19 ≡ then_given told xs
unfolding then_given
given-not told xs e h = simp (sym e, h)

pub given-all : (told : ℕ) (xs : List Float) → 0 ≡ told → all_finite xs ≡ true → 0 ≡ then_given told xs
unfolding then_given
given-all told xs e h = simp (sym e, h)

module _ (N : NumberedStudy) (a : Allowance) (o : Outputs) where
  abbrev given : List Float
  given = given_of N.study

  told_is : (t : ℕ) → t ≡ then_given (ward_shape_refusal N o) given → studied (in_rows N) a o t ≡ after_compute N a o
  unfolding after_compute ward_refusal
  told_is t q = ap (studied (in_rows N) a o) q

  pub answered-refused : (r : Refusal) → number r ≡ ward_shape_refusal N o → after_ward (Err r) o.y-ward o.p-ward o.q-ward o.work ≡ after_compute N a o
  answered-refused r e = refused (in_rows N) a o r ∙ told_is (number r) (given-after r (ward_shape_refusal N o) given e)

  pub answered-lost : 0 ≡ ward_shape_refusal N o → all_finite (given_of N.study) ≡ false → after_ward (Err GivenNotFinite) o.y-ward o.p-ward o.q-ward o.work ≡ after_compute N a o
  answered-lost z h = refused (in_rows N) a o GivenNotFinite ∙ told_is 19 (given-not (ward_shape_refusal N o) given z h)

  pub answered_done : 0 ≡ ward_shape_refusal N o → all_finite (given_of N.study) ≡ true → studied (in_rows N) a o 0 ≡ after_compute N a o
  answered_done z h = told_is 0 (given-all (ward_shape_refusal N o) given z h)

module _ (X : NumberedExtended) (a : Allowance) (o : ExtendedOutputs) where
  abbrev given_x : List Float
  given_x = given_of X.study.study ++ X.v-ext

  told-is_x : (t : ℕ) → t ≡ then_given (extended_shape_refusal X o) given_x → studied_extended (extended_in_rows X) a o t ≡ after_compute_extended X a o
  unfolding after_compute_extended extended_refusal
  told-is_x t q = ap (studied_extended (extended_in_rows X) a o) q

  pub answered-refused_x : (r : Refusal) → number r ≡ extended_shape_refusal X o → after_extended (Err r) o.outputs o.correction o.compensation ≡ after_compute_extended X a o
  answered-refused_x r e = refused_x (extended_in_rows X) a o r ∙ told-is_x (number r) (given-after r (extended_shape_refusal X o) given_x e)

  pub answered-lost_x : 0 ≡ extended_shape_refusal X o → all_finite (given_of X.study.study ++ X.v-ext) ≡ false → after_extended (Err GivenNotFinite) o.outputs o.correction o.compensation ≡ after_compute_extended X a o
  answered-lost_x z h = refused_x (extended_in_rows X) a o GivenNotFinite ∙ told-is_x 19 (given-not (extended_shape_refusal X o) given_x z h)

  pub answered-done_x : 0 ≡ extended_shape_refusal X o → all_finite (given_of X.study.study ++ X.v-ext) ≡ true → studied_extended (extended_in_rows X) a o 0 ≡ after_compute_extended X a o
  answered-done_x z h = told-is_x 0 (given-all (extended_shape_refusal X o) given_x z h)
