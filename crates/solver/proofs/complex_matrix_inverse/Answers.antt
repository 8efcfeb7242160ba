-- `solver::complex_matrix_inverse` meets its contract.
use Rattle.prelude.proofs.Prelude.{length}
use Rattle.std.proofs.lemmas.Result.{err_from_is_err_and}
use Rattle.refusals.proofs.Answering.{accepted}
use Rattle.solver.proofs.Accepted.{inverse-accepted}
use Rattle.solver.proofs.Allowances.{inverse-told, inverse-after}
use Rattle.solver.proofs.complex_matrix_inverse.Goals as goal

pub returns-in_err-inverse_refusal : goal.returns-in_err-inverse_refusal
returns-in_err-inverse_refusal c =
    let p = err_from_is_err_and c.from_residual.result c.from_residual.ensures.1 in
    rw (p.1, p.2) (inverse-told c.args.n c.args.mat.now c.args.inverse.now c.args.work.now _ c.in_err-inverse_refusal.ensures)

pub inverted-requires : goal.inverted-requires
inverted-requires c =
    let (k, f) = inverse-accepted c.args.n c.args.mat.now (length c.args.inverse.now) (length c.args.work.now) (accepted (tt {0}) tt _ tt c.in_ok-inverse_refusal.ensures).0 in
    (k.size, k.room, k.matrix, k.out, f)

pub returns : goal.returns
returns c =
    inverse-after c.args.n c.args.mat.now c.args.inverse.now c.args.work.now (accepted (tt {0}) tt _ tt c.in_ok-inverse_refusal.ensures).0 c.inverted.result c.inverted.new.inverse c.inverted.new.work
    c.inverted.ensures.0 c.inverted.ensures.1 c.inverted.ensures.2
