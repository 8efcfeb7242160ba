-- `binary64::finite::all_finite` meets its contract: all are finite where those passed are and those to come are.
use Rattle.prelude.proofs.Prelude.{refl, List, arith, Float, finite}
use Rattle.binary64.specs.Values.{all_finite}
use Rattle.binary64.proofs.Flags.{flag-next, flag-ended}
use Rattle.binary64.proofs.finite.all_finite.Goals as goal

pub loop-x-preserved : goal.loop-x-preserved
unfolding all_finite
loop-x-preserved c = (
  omega arith,
  flag-next finite all_finite (λ (x : Float) (xs : List Float). refl) c.args.s.now c.loop-x.all _ c.loop-x.x-index c.loop-x-test.true (cc)
      c.loop-x.invariant.1,
)

pub returns : goal.returns
unfolding all_finite
returns c = flag-ended all_finite refl c.args.s.now c.loop-x.all c.loop-x.x-index c.loop-x-test.false c.loop-x.invariant.1
