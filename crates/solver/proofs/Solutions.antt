-- What an eliminated slice holds: column c of its right sides is the solution for right side c alone; its steps, and that 13 comes by the system alone.
-- And that a filled slice is the system beside its right side, or beside the identity.
use Rattle.prelude.proofs.Prelude.{◌≡◌, refl, sym, ap, ◌∙◌, subst, Bool, true, false, cond, ◌⊎◌, inl, inr, List, ℕ, ◌+◌, ◌-◌, ◌*◌, ◌≤◌, ◌<◌, arith, T, eqb, length, Float, of_bits, sub-zero, eqb-true, eq-eqb, ne_eqb}
use Rattle.std.proofs.Common.{Result, Ok}
use Rattle.refusals.specs.declared.Refusal.{Refusal}
use borrow.Author.Tests.{eqb-false}
use Rattle.binary64.specs.Values.{all_finite}
use Rattle.complex.specs.{plus0, one, unit, entry, Matrix, entry_at, zeros}
use Rattle.complex.proofs.Entries.{parts_same}
use Rattle.complex.proofs.Matrices.{entry-grid, entry-within, get_or-zeros}
use Rattle.complex.proofs.Sticky.{Finite}
use Rattle.complex.proofs.FiniteEntries.{AllFinite, entries-slice, entry-finite, same-finite}
use Rattle.lists.proofs.Order.{lt-or-ge}
use Rattle.refusals.specs.Work.{Step}
use Rattle.solver.specs.GaussJordan.{gauss_jordan, augmented, solution}
use Rattle.solver.specs.Solving.{operations, unit_column}
use Rattle.solver.specs.Steps.{workings, steps_of_run}
use Rattle.solver.specs.Inner.Work.{Ended, Met, placed, right_sides, with_identity}
use Rattle.solver.proofs.StepsSame.{run-steps-same}
use Rattle.solver.proofs.GaussJordan.{run-same, augmented-system, augmented-right, column-alone}
use Rattle.solver.proofs.BlockParts.{placed-in, placed-left, placed-right}

-- ---- a system beside its right sides is finite where both are

pub augmented-finite : (n m : ℕ) (A B : Matrix) → AllFinite n n A → AllFinite n m B → AllFinite n (n + m) (augmented operations n A B)
augmented-finite n m A B a b i j x y = pick (lt-or-ge j n)
  where
    pick : (j < n) ⊎ (n ≤ j) → Finite (augmented operations n A B i j)
    pick (inl l) = subst Finite (sym (augmented-system operations n A B i j l)) (a i j x l)
    pick (inr l) =
        let at : n + (j - n) ≡ j = omega arith in
        subst (λ (k : ℕ). Finite (augmented operations n A B i k)) at (subst Finite (sym (augmented-right operations n A B i (j - n))) (b i (j - n) x (omega arith)))

-- ---- an eliminated slice

module _ (n m : ℕ) (A B : Matrix) (ys : List Float) (filled : (i j : ℕ) → i < n → j < n + m → entry_at (n + m) ys i j ≡ augmented operations n A B i j) where
  -- the steps are those of the system beside its right sides
  pub steps-are : steps_of_run operations workings n (n + m) (entry_at (n + m) ys) ≡ steps_of_run operations workings n (n + m) (augmented operations n A B)
  steps-are = run-steps-same operations workings n (n + m) (omega arith) (entry_at (n + m) ys) (augmented operations n A B) filled

  module _ (allowed : ℕ) (end : Result ℕ Refusal) (zs : List Float) (met : Met n (n + m) allowed end ys zs) where
    pub ended_is : Ended allowed end (steps_of_run operations workings n (n + m) (augmented operations n A B))
    ended_is = subst (λ (l : List Step). Ended allowed end l) steps-are (record { number = met.number; count = λ left e. (met.done left e).count })

    pub solution-is : (left : ℕ) → end ≡ Ok left → (i c : ℕ) → i < n → c < m → right_sides n (entry_at (n + m) zs) i c ≡ solution operations n A (λ (r : ℕ). B r c) i
    unfolding right_sides
    solution-is left d i c h k =
        let col : n + c < n + m = omega arith in
        ap (λ (l : List Float). entry_at (n + m) l i (n + c)) (met.done left d).entries
        ∙ entry-grid n (n + m) (gauss_jordan operations n (entry_at (n + m) ys)).left i (n + c) h col
        ∙ (run-same operations n (n + m) (omega arith) (entry_at (n + m) ys) (augmented operations n A B) filled).left i (n + c) h col
        ∙ column-alone operations n A B i c h

  -- finite, where system and right sides are
  pub filled-finite : length ys ≡ 2 * (n * (n + m)) → AllFinite n n A → AllFinite n m B → T (all_finite ys)
  filled-finite long a b = entries-slice n (n + m) ys long (same-finite n (n + m) (augmented operations n A B) (entry_at (n + m) ys) (λ i j x y. sym (filled i j x y)) (augmented-finite n m A B a b))

-- one right side, and the identity
pub side-finite : (n : ℕ) (b : List Float) → length b ≡ 2 * n → T (all_finite b) → AllFinite n 1 (λ (r k : ℕ). entry b r)
side-finite n b long h i j x y = entry-finite b i (omega arith) h

pub identity-finite : (n m : ℕ) → AllFinite n m (λ (r k : ℕ). unit_column k r)
unfolding unit_column plus0 one of_bits
identity-finite n m i j x y = pick (eqb i j)
  where
    pick : (b : Bool) → Finite (cond b unit (record { re = plus0; im = plus0 }))
    pick true = (tt, tt)
    pick false = (tt, tt)

-- ---- a filled slice

-- the n columns from 0 on
first-columns : (n : ℕ) (A W : Matrix) (i j : ℕ) → j < n → placed 0 n A W i j ≡ A i j
first-columns n A W i j h = placed-in 0 n A W i j (omega arith) (omega arith) ∙ ap (A i) (sub-zero j)

entry-one : (ys : List Float) (i : ℕ) → entry_at 1 ys i 0 ≡ entry ys i
unfolding entry_at
entry-one ys i = let e : i * 1 + 0 ≡ i = omega arith in ap (entry ys) e

pub system-filled : (n : ℕ) (A W : Matrix) (b : List Float) (i j : ℕ) → j < n + 1
    → placed n 1 (entry_at 1 b) (placed 0 n A W) i j ≡ augmented operations n A (λ (r k : ℕ). entry b r) i j
system-filled n A W b i j h = pick (lt-or-ge j n)
  where
    pick : (j < n) ⊎ (n ≤ j) → placed n 1 (entry_at 1 b) (placed 0 n A W) i j ≡ augmented operations n A (λ (r k : ℕ). entry b r) i j
    pick (inl l) =
        placed-left n 1 (entry_at 1 b) (placed 0 n A W) i j l ∙ first-columns n A W i j l
        ∙ sym (augmented-system operations n A (λ (r k : ℕ). entry b r) i j l)
    pick (inr l) =
        let none : j - n ≡ 0 = omega arith in
        let at : n + 0 ≡ j = omega arith in
        placed-in n 1 (entry_at 1 b) (placed 0 n A W) i j l h ∙ ap (entry_at 1 b i) none ∙ entry-one b i
        ∙ sym (augmented-right operations n A (λ (r k : ℕ). entry b r) i 0) ∙ ap (augmented operations n A (λ (r k : ℕ). entry b r) i) at

-- a cleared slice has (0, 0) everywhere
zero-entry : (n w long i j : ℕ) → long ≡ 2 * (n * w) → i < n → j < w → entry_at w (zeros long) i j ≡ record { re = plus0; im = plus0 }
unfolding entry_at entry
zero-entry n w long i j e h k =
    let within : i * w + j < n * w = entry-within n w i j h k in
    parts_same (get_or-zeros long (2 * (i * w + j)) (omega arith)) (get_or-zeros long (2 * (i * w + j) + 1) (omega arith))

pub identity-filled : (n long : ℕ) (A : Matrix) → long ≡ 2 * (n * (n + n)) → (i j : ℕ) → i < n → j < n + n
    → with_identity n (placed 0 n A (entry_at (n + n) (zeros long))) i j ≡ augmented operations n A (λ (r k : ℕ). unit_column k r) i j
unfolding with_identity unit_column
identity-filled n long A e i j h k = pick (lt-or-ge j n)
  where
    W : Matrix
    W = placed 0 n A (entry_at (n + n) (zeros long))

    pick : (j < n) ⊎ (n ≤ j) → cond (eqb j (n + i)) unit (placed 0 n A (entry_at (n + n) (zeros long)) i j) ≡ augmented operations n A (λ (r k : ℕ). unit_column k r) i j
    pick (inl l) =
        ap (λ (b : Bool). cond b unit (placed 0 n A (entry_at (n + n) (zeros long)) i j)) (ne_eqb j (n + i) (λ (x : j ≡ n + i). omega arith))
        ∙ first-columns n A (entry_at (n + n) (zeros long)) i j l
        ∙ sym (augmented-system operations n A (λ (r k : ℕ). unit_column k r) i j l)
    pick (inr l) =
        let at : n + (j - n) ≡ j = omega arith in
        one (eqb i (j - n)) refl
        ∙ sym (augmented-right operations n A (λ (r k : ℕ). unit_column k r) i (j - n)) ∙ ap (augmented operations n A (λ (r k : ℕ). unit_column k r) i) at
      where
        zeroes : placed 0 n A (entry_at (n + n) (zeros long)) i j ≡ record { re = plus0; im = plus0 }
        zeroes = placed-right 0 n A (entry_at (n + n) (zeros long)) i j (omega arith) ∙ zero-entry n (n + n) long i j e h k

        one : (b : Bool) → eqb i (j - n) ≡ b
            → cond (eqb j (n + i)) unit (placed 0 n A (entry_at (n + n) (zeros long)) i j) ≡ cond b unit (record { re = plus0; im = plus0 })
        one true t =
            let s = eqb-true i (j - n) t in
            ap (λ (b : Bool). cond b unit (placed 0 n A (entry_at (n + n) (zeros long)) i j)) (eq-eqb j (n + i) (omega arith))
        one false t =
            ap (λ (b : Bool). cond b unit (placed 0 n A (entry_at (n + n) (zeros long)) i j)) (ne_eqb j (n + i) (λ (x : j ≡ n + i). eqb-false i (j - n) t (omega arith)))
            ∙ zeroes
