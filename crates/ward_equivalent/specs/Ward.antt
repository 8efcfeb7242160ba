-- Ward's study: its formulas. Buses are rows of the given matrix here, counted from 0. Steps.antt has the order of the work, Studied.antt
-- what a study answers and leaves, and Numbers.antt how numbers come in, and what is told from the input.
use Rattle.std.specs.Prelude.{ℕ, cond, List, ◌∷◌, ◌++◌, eqb, length, get_or, pos, Float}
use Rattle.std.specs.Float.{nan, binary64}
use Rattle.std.specs.Float.Ieee.{of_int}
use Rattle.complex.specs.declared.Complex.{Complex}
use Rattle.complex.specs.Constants.{plus0, one}
use Rattle.complex.specs.Arithmetic.{◌⊖◌, ◌⊘◌, csub, cmul}
use Rattle.complex.specs.Matrices.{Matrix, entry_at}
use Rattle.ward_equivalent.specs.Arithmetic.{sum_up, current, injected_p, injected_q}
use Rattle.solver.specs.Solving.{solve}

-- what is given: base in MVA, injections at the external buses in MW and MVAr; the lists name rows here, and numbers in a `NumberedStudy`
pub record Study : Type 0 where
  pub size : ℕ
  pub given : List Float
  pub internal : List ℕ
  pub external : List ℕ
  pub boundary : List ℕ
  pub base : Float
  pub p-ext : List Float
  pub q-ext : List Float

-- all its numbers, those of buses in no list too
unfoldable pub given_of : Study → List Float
given_of S = S.given ++ (S.base ∷ (S.p-ext ++ S.q-ext))

-- the slices that the answer goes to, and the work slice
pub record Outputs : Type 0 where
  pub y-ward : List Float
  pub p-ward : List Float
  pub q-ward : List Float
  pub work : List Float

-- ---- buses

-- row and column order of the equivalent
unfoldable pub retained : Study → List ℕ
retained S = S.internal ++ S.boundary

-- the three lists together
unfoldable pub listed : Study → List ℕ
unfolding retained
listed S = S.external ++ retained S

abbrev pub externals : Study → ℕ
externals S = length S.external

abbrev pub external_at : Study → ℕ → ℕ
external_at S k = get_or S.external k 0

-- the given admittance between two buses
unfoldable pub admittance : Study → Matrix
admittance S = entry_at S.size S.given

-- ---- Ward's formula

-- Y_ee, by place in the external list
unfoldable pub y_ee : Study → Matrix
unfolding admittance
y_ee S k l = admittance S (external_at S k) (external_at S l)

-- X: the solution of Y_ee x = the column of bus j in Y_er
unfoldable pub solved_column : Study → ℕ → ℕ → Complex
unfolding y_ee admittance
solved_column S j k = solve (externals S) (y_ee S) (λ (l : ℕ). admittance S (external_at S l) j) k

-- row i of Y_re times a vector over the external buses
unfoldable pub row_times : Study → ℕ → (ℕ → Complex) → Complex
unfolding sum_up admittance
row_times S i x = sum_up (externals S) (λ (k : ℕ). cmul (admittance S i (external_at S k)) (x k))

-- Y_rr - Y_re X, by bus; with no external bus the given matrix
unfoldable pub equivalent : Study → Matrix
unfolding row_times solved_column admittance
equivalent S i j = cond (eqb (externals S) 0) (admittance S i j) (csub (admittance S i j) (row_times S i (solved_column S j)))

-- ---- injections

-- x: the solution of Y_ee x = the currents
unfoldable pub solved_currents : Study → ℕ → Complex
unfolding y_ee current
solved_currents S k = solve (externals S) (y_ee S) (λ (l : ℕ). current S.base (get_or S.p-ext l nan) (get_or S.q-ext l nan)) k

-- Y_be x at boundary bus i
unfoldable pub boundary_current : Study → ℕ → Complex
unfolding row_times solved_currents
boundary_current S i = row_times S i (solved_currents S)

unfoldable pub injection_p : Study → ℕ → Float
unfolding plus0 injected_p boundary_current
injection_p S i = cond (eqb (externals S) 0) plus0 (injected_p S.base (boundary_current S i))

unfoldable pub injection_q : Study → ℕ → Float
unfolding plus0 injected_q boundary_current
injection_q S i = cond (eqb (externals S) 0) plus0 (injected_q S.base (boundary_current S i))

-- 1 - r / n, in binary64: the share of the n buses that r retained ones leave out
unfoldable pub ratio : ℕ → ℕ → Float
unfolding one
ratio r n = one ⊖ of_int binary64 (pos r) ⊘ of_int binary64 (pos n)
