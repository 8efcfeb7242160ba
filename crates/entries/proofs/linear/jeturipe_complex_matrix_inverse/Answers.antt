-- `entries::linear::jeturipe_complex_matrix_inverse` meets its contract.
use Rattle.entries.proofs.linear.jeturipe_complex_matrix_inverse.Goals as goal

pub returns : goal.returns
returns c = (rw (← c.complex_matrix_inverse.ensures.0) c.number_of.ensures, c.complex_matrix_inverse.ensures.1, c.complex_matrix_inverse.ensures.2)
