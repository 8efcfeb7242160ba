-- `solver::elimination::Turn::run` meets its contract.
use Rattle.prelude.proofs.Prelude.{◌≡◌, ◌∙◌, Bool, true, false, List, ℕ, ◌*◌, ◌≤◌, ◌<◌, arith, rules, length, Float, lt}
use Rattle.complex.specs.{division_limit, Matrix, entry, entry_at}
use Rattle.complex.proofs.Entries.{entry-append-left}
use Rattle.solver.specs.GaussJordan.{pivoted}
use Rattle.solver.specs.Solving.{operations}
use Rattle.solver.proofs.RowParts.{front_long}
use Rattle.solver.proofs.ColumnSteps.{placed, weighed, column-small, column-cleared}
use Rattle.solver.proofs.elimination.Turn.run.Goals.{After-sqmag, After-swap, Start}
use Rattle.solver.proofs.elimination.Turn.run.Goals as goal

-- once the pivot is weighed
module _ (c : After-sqmag) where
  abbrev s : Start
  s = (goal.at.After-sqmag c).Start

  wide : s.args.self.n ≤ s.args.self.w
  wide = omega arith

  here : s.args.self.c < s.args.self.n
  here = omega arith

  abbrev swap : After-swap
  swap = (goal.at.After-sqmag c).After-swap

  abbrev A : Matrix
  A = entry_at s.args.self.w s.args.work.now

  abbrev B : Matrix
  B = entry_at s.args.self.w swap.swap.new.work

  abbrev front : List Float
  front = swap.swap.new.row

  abbrev p : ℕ
  p = c.pivot_row-p.result

  rows : (i j : ℕ) → j < s.args.self.w → B i j ≡ pivoted operations s.args.self.n s.args.self.c A i j
  rows = placed s.args.self.n s.args.self.w s.args.self.c p A B (entry front) c.pivot_row-p.ensures.0 swap.swap.ensures.0 swap.swap.ensures.1

  long : length swap.swap.new.work ≡ 2 * (s.args.self.n * s.args.self.w)
  long = swap.swap.auto.work ∙ s.requires.0

  answer : (b : Bool) → lt c.sqmag.result division_limit ≡ b → b ≡ operations.small (pivoted operations s.args.self.n s.args.self.c A s.args.self.c s.args.self.c)
  answer b e =
      let long : length front ≡ 2 * s.args.self.w = swap.swap.auto.row ∙ front_long s.args.self.w s.args.row.now s.requires.1 in
      weighed s.args.self.n s.args.self.w s.args.self.c p A B (entry front) c.pivot_row-p.ensures.0 swap.swap.ensures.0 swap.swap.ensures.1 wide here c.get.result c.sqmag.result b (c.get.ensures ∙ entry-append-left front _ s.args.self.c (omega arith)) c.sqmag.ensures e

pub returns-then-sqmag : goal.returns-then-sqmag
unfolding division_limit
returns-then-sqmag c =
    column-small _ _ _ _ (wide (goal.at.returns-then-sqmag c).After-sqmag) (here (goal.at.returns-then-sqmag c).After-sqmag) _ _ (s (goal.at.returns-then-sqmag c).After-sqmag).requires.0 (long (goal.at.returns-then-sqmag c).After-sqmag) (rows (goal.at.returns-then-sqmag c).After-sqmag) (answer (goal.at.returns-then-sqmag c).After-sqmag true c.if-sqmag.true)

pub clear-requires : goal.clear-requires
clear-requires c =
    let long : length c.swap.new.row ≡ 2 * c.args.self.w = c.swap.auto.row ∙ front_long c.args.self.w c.args.row.now c.requires.1 in
    (search rules, search rules, λ (j : ℕ) (h : j < c.args.self.w). entry-append-left c.swap.new.row _ j (omega arith) ∙ c.swap.ensures.1 j h)

pub returns : goal.returns
unfolding division_limit
returns c =
    column-cleared _ _ _ _ (wide (goal.at.returns c).After-sqmag) (here (goal.at.returns c).After-sqmag) _ _ (s (goal.at.returns c).After-sqmag).requires.0 (long (goal.at.returns c).After-sqmag) (rows (goal.at.returns c).After-sqmag) (answer (goal.at.returns c).After-sqmag false c.if-sqmag.false) _ _ c.clear.ensures.0 c.clear.ensures.1 c.clear.ensures.2
