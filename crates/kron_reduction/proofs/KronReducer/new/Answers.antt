-- `kron_reduction::KronReducer::new` meets its contract.
use Rattle.prelude.proofs.Prelude.{arith, rules}
use Rattle.std.proofs.lemmas.Result.{err_from_is_err_and}
use Rattle.refusals.proofs.Answering.{accepted}
use Rattle.kron_reduction.proofs.Making.{makes-has, new-refused, new-done, new-answers}
use Rattle.kron_reduction.specs.Reducer.{reducer_input_of}
use Rattle.kron_reduction.proofs.KronReducer.new.Goals as goal

pub returns-in_err-making_refusal : goal.returns-in_err-making_refusal
returns-in_err-making_refusal c =
    let p = err_from_is_err_and c.from_residual.result c.from_residual.ensures.1 in
    new-answers (reducer_input_of c.args.n c.args.y.now c.args.numbers.now) _ (rw (p.1, p.2) (new-refused _ _ _ _ c.in_err-making_refusal.ensures)) (search rules)

pub of_numbers-requires : goal.of_numbers-requires
of_numbers-requires c =
    let h = makes-has c.args.n c.args.y.now c.args.numbers.now (accepted (tt {0}) (tt {0}) _ _ c.in_ok-making_refusal.ensures).0 in
    omega (arith, h.size, h.many)

pub returns : goal.returns
returns c =
    new-answers (reducer_input_of c.args.n c.args.y.now c.args.numbers.now) _ (new-done _ _ _ c.of_numbers.result c.in_ok-making_refusal.ensures c.of_numbers.ensures) (search rules)
