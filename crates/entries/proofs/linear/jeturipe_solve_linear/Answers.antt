-- `entries::linear::jeturipe_solve_linear` meets its contract.
use Rattle.entries.proofs.linear.jeturipe_solve_linear.Goals as goal

pub returns : goal.returns
returns c =
    record { told = rw (← c.solve_linear-answer.ensures.0) c.number_of.ensures; solution = c.solve_linear-answer.ensures.1; left = c.solve_linear-answer.ensures.2; counted = rw (← c.solve_linear-answer.ensures.0) c.give.ensures }
