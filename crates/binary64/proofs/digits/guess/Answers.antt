-- `binary64::digits::guess` meets its contract.
use Rattle.prelude.proofs.Prelude.{◌+◌, ◌-◌, ◌*◌, ◌<◌, arith, ◌/◌, ◌^◌}
use Rattle.binary64.proofs.WholeRoots.{product-fits}
use Rattle.binary64.proofs.digits.guess.Goals.{Start}
use Rattle.binary64.proofs.digits.guess.Goals as goal

square-fits : (c : Start) → c.args.h * c.args.h < 2 ^ 64
square-fits c = product-fits c.args.h c.args.h c.requires c.requires

-- the last product of the polynomial
highest : (c : Start) → c.args.h * c.args.h / 2 ^ 32 * (1967320785 - c.args.h * 401761978 / 2 ^ 30 + c.args.h * c.args.h / 2 ^ 32 * 31913905 / 2 ^ 28) < 2 ^ 64
highest c = let s = square-fits c in product-fits _ _ (omega arith) (omega arith)

pub overflow_mul-result : goal.overflow_mul-result
overflow_mul-result c = omega (arith, product-fits c.args.h c.nearer-2.result c.requires c.nearer-2.ensures)

pub returns : goal.returns
returns c = omega (arith, product-fits c.args.h c.nearer-2.result c.requires c.nearer-2.ensures)

pub overflow_mul-hh : goal.overflow_mul-hh
overflow_mul-hh c = omega (arith, square-fits c)

pub overflow_mul-high-2 : goal.overflow_mul-high-2
overflow_mul-high-2 c = omega (arith, square-fits c)

pub overflow_add-high : goal.overflow_add-high
overflow_add-high c = omega (arith, square-fits c)

pub overflow_mul-y : goal.overflow_mul-y
overflow_mul-y c = omega (arith, highest c)

pub overflow_add-y : goal.overflow_add-y
overflow_add-y c = omega (arith, highest c)
