-- `binary64::digits::short_root` meets its contract. The invariant: the square of q, and r, make m. The measure is r.
use Rattle.prelude.proofs.Prelude.{arith}
use Rattle.binary64.proofs.WholeRoots.{product-fits}
use Rattle.binary64.proofs.digits.short_root.Goals.{else-square-m, then-square-m}
use Rattle.binary64.proofs.digits.short_root.Goals as goal

pub overflow_mul-square : goal.overflow_mul-square
overflow_mul-square c = omega (arith, product-fits c.guess-low.result c.guess-low.result c.guess-low.ensures c.guess-low.ensures)

pub loop-q-init : goal.loop-q-init
loop-q-init c = elim c.if-square-m.branch [ then-square-m w ↦ rw (w.q-is, w.r-is) (omega arith) | else-square-m w ↦ rw (w.q-is, w.r-is) (omega arith) ]
