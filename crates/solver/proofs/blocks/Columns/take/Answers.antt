-- `solver::blocks::Columns::take` meets its contract. The invariant: the rows before row i are copied, the others as they were.
use Rattle.prelude.proofs.Prelude.{refl, ◌∙◌, ℕ, arith}
use Rattle.solver.proofs.Passed.{rows_more}
use Rattle.complex.proofs.Matrices.{grid-ext}
use Rattle.solver.proofs.blocks.Columns.take.Goals as goal

pub loop-i-preserved : goal.loop-i-preserved
loop-i-preserved c =
    (omega arith, c.take_row.auto.to ∙ c.loop-i.invariant.1, rows_more _ _ _ _ _ _ _ c.take_row.ensures (λ q h. refl) c.loop-i.invariant.2)

pub returns : goal.returns
returns c = grid-ext _ _ _ c.loop-i.to c.loop-i.invariant.1 (λ (i j : ℕ) h k. c.loop-i.invariant.2.behind i (omega arith) j k)
