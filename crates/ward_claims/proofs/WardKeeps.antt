-- Ward's own study: a retained row with zeros towards all external buses keeps its values and gets zero injection (`zero_row`).
use Rattle.prelude.proofs.Prelude.{◌≡◌, refl, sym, subst, Bool, true, false, cond, inr, List, [], ◌∷◌, ◌++◌, ℕ, ◌+◌, ◌*◌, ◌<◌, arith, T, eqb, length, get_or, Float, binary64, fits, neg, and_l, and_r, finite, nan}
use lib.Seq.{get_or-append-add}
use Rattle.complex.specs.{Complex, plus0, csub, of_difference, entry, entry_at, zeros, ◌≈◌, Zero}
use Rattle.binary64.specs.Values.{is_zero, all_finite, F64s}
use Rattle.binary64.proofs.Floats as F
use Rattle.complex.proofs.Matrices.{entry-within, entry-rows}
use Rattle.complex.proofs.Finite.{all_left, all_right, all-at, zero-times}
use Rattle.complex.proofs.SameValue.{Finite, ≋-refl, ≋→≈}
use Rattle.lists.specs.Buses.{◌is_one_of◌}
use Rattle.ward_equivalent.specs.Arithmetic.{injected_p, injected_q}
use Rattle.ward_equivalent.specs.Ward.{Study, Outputs, retained, listed, externals, external_at, admittance, solved_column, row_times, equivalent, solved_currents, boundary_current, injection_p, injection_q}
use Rattle.ward_equivalent.specs.Studied.{accepted_outputs}
use Rattle.refusals.specs.declared.Allowance.{Allowance}
use Rattle.ward_equivalent.specs.Steps.{of_each, of_row_times, of_equivalent_entry, of_injection, of_equivalent, of_injections, of_study}
use Rattle.ward_equivalent.proofs.Steps.{entries-computed, injections-computed}
use Rattle.lists.proofs.Buses.{get_or-in, in-append, below_all}
use Rattle.ward_equivalent.specs.Numbers.{NumberedStudy, in_rows, AcceptedStudy, after_compute}
use Rattle.ward_equivalent.proofs.Laws.{Sound, sound, left-accepted, given-finite, computed-finite}
use Rattle.ward_equivalent.proofs.FiniteAnswers.{matrix-given}
use Rattle.lists.proofs.Lookups.{get_or_map}
use Rattle.ward_equivalent.proofs.Sums.{Null, plus0-zero, products-null, each_at}
use Rattle.ward_claims.specs.WardRows.{old, row_buses, bus_of_row, ZeroRow, KeepsValues, ZeroAt, KeepsRow}

-- ---- rows and places

-- a retained bus is below the size
bus-below : (S : Study) → Sound S → (p : ℕ) → p < length (retained S) → get_or (retained S) p 0 < S.size
unfolding retained listed
bus-below S s p h =
    let k = get_or (S.internal ++ S.boundary) p 0 in
    below_all S.size (listed S) s.below k (in-append k S.external (S.internal ++ S.boundary) (inr (get_or-in (S.internal ++ S.boundary) p h)))

-- a given entry is finite
entry-finite : (S : Study) → Sound S → T (all_finite S.given) → (i j : ℕ) → i < S.size → j < S.size
    → Finite (admittance S i j)
unfolding admittance entry_at entry
entry-finite S s h i j x y =
    let within : i * S.size + j < S.size * S.size = entry-within S.size S.size i j x y in
    let long = s.given in
    (all-at S.given (2 * (i * S.size + j)) (omega arith) h, all-at S.given (2 * (i * S.size + j) + 1) (omega arith) h)

-- the row's entries towards external buses
pub row-null : (S : Study) (i : ℕ) → ((e : ℕ) → e is_one_of S.external → Zero (admittance S i e)) → (k : ℕ) → k < externals S → Null (admittance S i (external_at S k))
row-null S i z k h =
    let c = admittance S i (external_at S k) in
    let t = z (external_at S k) (get_or-in S.external k h) in
    (F.eq-zero c.re (and_l (is_zero c.re) (is_zero c.im) t), F.eq-zero c.im (and_r (is_zero c.re) (is_zero c.im) t))

-- ---- the values

less-null : (a b : Complex) → T (fits binary64 a.re) × T (fits binary64 a.im) → Null b → T (all_finite (of_difference a b)) → csub a b ≈ a
unfolding csub
less-null a b f z h = (
  F.≐→eq (all-at (of_difference a b) 0 (omega arith) h) (F.sub-right binary64 a.re b.re f.0 z.0),
  F.≐→eq (all-at (of_difference a b) 1 (omega arith) h) (F.sub-right binary64 a.im b.im f.1 z.1),
)

entry-computed : (S : Study) (p q : ℕ) → p < length (retained S) → q < length (retained S) → T (all_finite (of_equivalent S)) → T (all_finite (of_equivalent_entry S (get_or (retained S) p 0) (get_or (retained S) q 0)))
unfolding of_equivalent
entry-computed S p q x y h =
    each_at (of_equivalent_entry S (get_or (retained S) p 0)) (retained S) q y
    (each_at (λ (i : ℕ). of_each (of_equivalent_entry S i) (retained S)) (retained S) p x h)

module _ (S : Study) (s : Sound S) (f64s : F64s S.given) (given : T (all_finite S.given)) (computed : T (all_finite (of_study S)))
    (p : ℕ) (at : p < length (retained S)) (none : (e : ℕ) → e is_one_of S.external → Zero (admittance S (get_or (retained S) p 0) e)) where
  -- the row times any vector, where that is finite
  row-times : (x : ℕ → Complex) → T (all_finite (of_row_times S (get_or (retained S) p 0) x)) → Null (row_times S (get_or (retained S) p 0) x)
  unfolding of_row_times row_times
  row-times x h =
      let i = get_or (retained S) p 0 in
      products-null (externals S) (λ (k : ℕ). admittance S i (external_at S k)) x (row-null S i none) h

  entry-fits : (j : ℕ) → T (fits binary64 (admittance S (get_or (retained S) p 0) j).re) × T (fits binary64 (admittance S (get_or (retained S) p 0) j).im)
  unfolding admittance entry_at entry
  entry-fits j = let at = get_or (retained S) p 0 * S.size + j in (f64s (2 * at), f64s (2 * at + 1))

  same-value : (q : ℕ) → q < length (retained S) → equivalent S (get_or (retained S) p 0) (get_or (retained S) q 0) ≈ admittance S (get_or (retained S) p 0) (get_or (retained S) q 0)
  unfolding equivalent of_equivalent_entry
  same-value q y = go (eqb (externals S) 0) refl
    where
      i : ℕ
      i = get_or (retained S) p 0

      j : ℕ
      j = get_or (retained S) q 0

      go : (b : Bool) → eqb (externals S) 0 ≡ b
          → cond b (admittance S (get_or (retained S) p 0) (get_or (retained S) q 0)) (csub (admittance S (get_or (retained S) p 0) (get_or (retained S) q 0)) (row_times S (get_or (retained S) p 0) (solved_column S (get_or (retained S) q 0)))) ≈ admittance S (get_or (retained S) p 0) (get_or (retained S) q 0)
      go true e = ≋→≈ (entry-finite S s given i j (bus-below S s p at) (bus-below S s q y)) ≋-refl
      go false e =
          let numbers = entry-computed S p q at y (entries-computed S e computed) in
          less-null (admittance S i j) (row_times S i (solved_column S j)) (entry-fits j)
          (row-times (solved_column S j) (search (all_left, all_right))) (search (all_left, all_right))

  -- the injections at place t of the boundary
  injections : (t : ℕ) → t < length S.boundary → get_or (retained S) p 0 ≡ get_or S.boundary t 0
      → F.Zero (injection_p S (get_or S.boundary t 0)) × F.Zero (injection_q S (get_or S.boundary t 0))
  unfolding of_injections of_injection injection_p injection_q boundary_current injected_p injected_q
  injections t l e = go (eqb (externals S) 0) refl
    where
      go : (b : Bool) → eqb (externals S) 0 ≡ b
          → F.Zero (cond b plus0 (injected_p S.base (boundary_current S (get_or S.boundary t 0)))) × F.Zero (cond b plus0 (injected_q S.base (boundary_current S (get_or S.boundary t 0))))
      go true q = (plus0-zero, plus0-zero)
      go false q =
          let i = get_or S.boundary t 0 in
          let products = of_row_times S i (solved_currents S) in
          let numbers : T (all_finite (products ++ (injection_p S i ∷ injection_q S i ∷ []))) =
          each_at (of_injection S) S.boundary t l (injections-computed S q computed) in
          let times : T (all_finite products) = search all_left in
          let null : Null (boundary_current S i) = rw e at (row-times (solved_currents S) (rw (← e) at times)) in
          let ends : T (all_finite (injection_p S i ∷ injection_q S i ∷ [])) = search all_right in
          let fp : T (finite (injected_p S.base (boundary_current S i))) = rw q at (all-at (injection_p S i ∷ injection_q S i ∷ []) 0 (omega arith) ends) in
          let fq : T (finite (injected_q S.base (boundary_current S i))) = rw q at (all-at (injection_p S i ∷ injection_q S i ∷ []) 1 (omega arith) ends) in (
            zero-times binary64 (neg (boundary_current S i).re) S.base (F.neg-zero (boundary_current S i).re null.0) fp,
            zero-times binary64 (boundary_current S i).im S.base null.1 fq,
          )

-- ---- the whole row

-- the row of the boundary's bus at place t
pub bus-at : (S : Study) (p t : ℕ) → p ≡ length S.internal + t → get_or (S.internal ++ S.boundary) p 0 ≡ get_or S.boundary t 0
bus-at S p t e = rw e (get_or-append-add S.internal S.boundary t 0)

module _ (S : Study) (s : Sound S) (f64s : F64s S.given) (given : T (all_finite S.given)) (computed : T (all_finite (of_study S)))
    (p : ℕ) (at : p < length (row_buses S)) (none : ZeroRow S p) where
  zero-injections : (t : ℕ) → t < length S.boundary → p ≡ length S.internal + t
      → F.Zero (injection_p S (get_or S.boundary t 0)) × F.Zero (injection_q S (get_or S.boundary t 0))
  unfolding row_buses bus_of_row old ZeroRow retained admittance
  zero-injections t l e = injections S s f64s given computed p at none t l (bus-at S p t e)

  pub keeps-row : (ws : List Float) → KeepsRow S (accepted_outputs S ws) p
  unfolding row_buses bus_of_row old ZeroRow KeepsValues ZeroAt retained admittance accepted_outputs
  keeps-row ws =
      record {
        values = λ (q : ℕ) (y : q < length (row_buses S)).
            subst (λ (c : Complex). c ≈ old S (bus_of_row S p) (bus_of_row S q)) (sym (entry-rows (equivalent S) (retained S) (retained S) p q at y))
            (same-value S s f64s given computed p at none q y);
        active = λ t l e. rw (get_or_map (injection_p S) 0 nan S.boundary t l) (F.zero-eq (injection_p S (get_or S.boundary t 0)) (zero-injections t l e).0);
        reactive = λ t l e. rw (get_or_map (injection_q S) 0 nan S.boundary t l) (F.zero-eq (injection_q S (get_or S.boundary t 0)) (zero-injections t l e).1);
      }

pub zero_row : (N : NumberedStudy) (a : Allowance) (o : Outputs) → F64s N.study.given → AcceptedStudy N a o
    → (p : ℕ) → p < length (row_buses (in_rows N)) → ZeroRow (in_rows N) p → KeepsRow (in_rows N) (after_compute N a o).outputs p
unfolding in_rows
zero_row N a o f64s h p at none =
    let S = in_rows N in
    subst (λ (room : Outputs). KeepsRow S room p) (sym (left-accepted N a o h))
    (keeps-row S (sound N a o h) f64s (matrix-given S (given-finite N a o h)) (computed-finite N a o h) p at none (zeros (length o.work)))
