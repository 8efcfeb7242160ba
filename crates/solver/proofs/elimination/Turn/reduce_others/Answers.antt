-- `solver::elimination::Turn::reduce_others` meets its contract.
use Rattle.prelude.proofs.Prelude.{◌≡◌, refl, sym, ap, ◌∙◌, ℕ, ◌+◌, ◌*◌, ◌<◌, arith, length, add-one}
use native.Mathlib.Nat.{suc-mul}
use Rattle.complex.proofs.Matrices.{row_within}
use Rattle.solver.proofs.Told.{not_done, not-small}
use Rattle.solver.proofs.RowTurns.{Reducing, reducing-first, reducing-same, reducing-alone, reducing-more, reducing-exceeded, reducing-end}
use Rattle.solver.proofs.elimination.Turn.reduce_others.Goals.{then-not-left_alone+else-left-eq0, else-not-left_alone, After-left_alone, Joined-not-left_alone, Start}
use Rattle.solver.proofs.elimination.Turn.reduce_others.Goals as goal

-- a row's turn
module _ (c : After-left_alone) where
  abbrev start : Start
  start = (goal.at.After-left_alone c).Start

  here : start.args.self.c < start.args.self.w
  here = omega arith

pub returns-then-left-eq0 : goal.returns-then-left-eq0
returns-then-left-eq0 c = (
  reducing-exceeded _ _ _ _ _ _ _ _ c.loop-i.invariant.0 (here (goal.at.returns-then-left-eq0 c).After-left_alone) c.loop-i-test.true
      (sym c.left_alone.ensures ∙ c.if-not-left_alone.true) c.if-left-eq0.true,
  λ left e. absurd (not_done refl e),
  λ e. not-small refl e,
)

-- row i done, the next row's factor is w places on
module _ (c : Joined-not-left_alone) where
  abbrev turn : After-left_alone
  turn = (goal.at.Joined-not-left_alone c).After-left_alone

  abbrev row : ℕ
  row = turn.loop-i.i

  next : row * (start turn).args.self.w + (start turn).args.self.c + (start turn).args.self.w ≡ (row + 1) * (start turn).args.self.w + (start turn).args.self.c
  next = let one : (row + 1) * (start turn).args.self.w ≡ row * (start turn).args.self.w + (start turn).args.self.w = ap (λ (k : ℕ). k * (start turn).args.self.w) (add-one row) ∙ suc-mul row (start turn).args.self.w in omega arith

  reduced : Reducing (start turn).args.self.n (start turn).args.self.w (start turn).args.self.c (start turn).args.allowed c.if-not-left_alone.left (row + 1) (start turn).args.work.now c.if-not-left_alone.work
  reduced =
      elim c.if-not-left_alone.branch [
        | then-not-left_alone+else-left-eq0 x ↦ reducing-same _ _ _ _ x.work-is x.left-is (reducing-more _ _ _ _ _ _ _ _ turn.loop-i.invariant.0 (here turn) turn.loop-i-test.true
            (sym turn.left_alone.ensures ∙ x.if-not-left_alone.true) x.if-left-eq0.false _ x.reduce_row.new.work (start turn).requires.2 x.reduce_row.auto.work x.reduce_row.ensures)
        | else-not-left_alone x ↦ reducing-same _ _ _ _ x.work-is x.left-is (reducing-alone _ _ _ _ _ _ _ _ turn.loop-i.invariant.0 (here turn) turn.loop-i-test.true
            (sym turn.left_alone.ensures ∙ x.if-not-left_alone.false))
      ]

  -- which is within twice the slice
  far : turn.loop-i.at + (start turn).args.self.w < length (start turn).args.work.now + 1
  far =
      let s = start turn in
      let h = here turn in
      let inside = row_within s.args.self.n s.args.self.w row turn.loop-i-test.true in
      omega (arith, turn.loop-i.invariant.1, s.requires.0, h)

pub returns : goal.returns
returns c =
    let e = reducing-end _ _ _ _ _ _ _ _ c.loop-i.invariant.0 (omega arith) c.loop-i-test.false in
    (e.0, λ left k. e.1, λ k. not-small refl k)

pub loop-i-init : goal.loop-i-init
loop-i-init c = (reducing-first _ _ _ _ _ c.requires.0, omega arith)

pub overflow_add-at : goal.overflow_add-at
overflow_add-at c = record { fits = omega (arith, far (goal.at.overflow_add-at c).Joined-not-left_alone) }

pub loop-i-preserved : goal.loop-i-preserved
loop-i-preserved c =
    let j = (goal.at.loop-i-preserved c).Joined-not-left_alone in
    (reduced j, omega (arith, c.loop-i.invariant.1, next j))
