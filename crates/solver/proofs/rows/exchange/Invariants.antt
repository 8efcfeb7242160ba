use Rattle.prelude.proofs.Prelude.{◌≡◌, List, ℕ, ◌*◌, ◌≤◌, length, Float}
use Rattle.complex.specs.{entry}
use Rattle.solver.proofs.Passed.{Put}
use Rattle.solver.proofs.rows.exchange.Given as goal

-- of two rows, the one that takes the other's entries
pub record Taking (w : ℕ) (old other now : List Float) (j : ℕ) : Type 0 where
  pub most : j ≤ w
  pub long : length now ≡ 2 * w
  pub passed : Put now (entry other) (entry old) j

abbrev pub invariant-loop-j : goal.invariant-loop-j
invariant-loop-j l = Taking l.w l.initial.a l.initial.b l.a l.j × Taking l.w l.initial.b l.initial.a l.b l.j
