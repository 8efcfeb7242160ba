-- `binary64::digits::nearer` meets its contract.
use Rattle.prelude.proofs.Prelude.{◌*◌, ◌<◌, arith, ◌/◌, ◌^◌}
use Rattle.binary64.proofs.WholeRoots.{product-fits}
use Rattle.binary64.proofs.digits.nearer.Goals.{Start}
use Rattle.binary64.proofs.digits.nearer.Goals as goal

-- the product of the two upper halves
upper : (c : Start) → c.args.h * c.args.y / 2 ^ 32 * (c.args.y * c.args.y / 2 ^ 32) < 2 ^ 64
upper c =
    let a = product-fits c.args.h c.args.y c.requires.0 c.requires.1 in
    let b = product-fits c.args.y c.args.y c.requires.1 c.requires.1 in
    product-fits (c.args.h * c.args.y / 2 ^ 32) (c.args.y * c.args.y / 2 ^ 32) (omega arith) (omega arith)

pub overflow_mul-hy : goal.overflow_mul-hy
overflow_mul-hy c = omega (arith, product-fits c.args.h c.args.y c.requires.0 c.requires.1)

pub overflow_mul-yy : goal.overflow_mul-yy
overflow_mul-yy c = omega (arith, product-fits c.args.y c.args.y c.requires.1 c.requires.1)

pub overflow_mul-result-2 : goal.overflow_mul-result-2
overflow_mul-result-2 c = omega (arith, upper c)

pub overflow_sub-result : goal.overflow_sub-result
overflow_sub-result c = omega (arith, upper c)
