-- `binary64::digits::longer` meets its contract.
use Rattle.prelude.proofs.Prelude.{arith}
use Rattle.binary64.proofs.WholeRoots.{divided, digits-few, digits-right, digits-over}
use Rattle.binary64.proofs.digits.longer.Goals as goal

pub overflow_mul-result : goal.overflow_mul-result
overflow_mul-result c = omega (arith, digits-few c.args.s c.args.r c.requires.0 c.requires.2)

pub overflow_add-result : goal.overflow_add-result
overflow_add-result c = omega (arith, digits-few c.args.s c.args.r c.requires.0 c.requires.2)

pub overflow_add-result-then-rest-square : goal.overflow_add-result-then-rest-square
overflow_add-result-then-rest-square c = omega (arith, digits-few c.args.s c.args.r c.requires.0 c.requires.2)

pub overflow_sub-result : goal.overflow_sub-result
overflow_sub-result c = omega (arith, digits-few c.args.s c.args.r c.requires.0 c.requires.2)

pub returns-then-rest-square : goal.returns-then-rest-square
returns-then-rest-square c = digits-over c.args.s c.args.r c.requires.0 c.requires.2 c.if-rest-square.true

pub returns : goal.returns
returns c = digits-right c.args.s c.args.r c.requires.0 c.requires.2 c.if-rest-square.false

pub overflow_mul-rest-3 : goal.overflow_mul-rest-3
overflow_mul-rest-3 c = omega (arith, divided c.args.s c.args.r c.requires.0 c.requires.2)

pub overflow_mul-square : goal.overflow_mul-square
overflow_mul-square c = omega (arith, digits-few c.args.s c.args.r c.requires.0 c.requires.2)

pub overflow_add-q : goal.overflow_add-q
overflow_add-q c = omega (arith, digits-few c.args.s c.args.r c.requires.0 c.requires.2)
