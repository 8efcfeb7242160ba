-- `dc_flow::branches::Ptdf::denominators` meets its contract: those of the branches passed stand before what was there.
use Rattle.prelude.proofs.Prelude.{refl, ap, arith, Float}
use Rattle.complex.specs.{◌⊖◌, one}
use Rattle.dc_flow.specs.Dc.{real_row, denominator}
use Rattle.dc_flow.proofs.OutageLaws.{real_row-step, real_row-all}
use Rattle.dc_flow.proofs.branches.Ptdf.denominators.Goals as goal

pub loop-k-init : goal.loop-k-init
unfolding real_row
loop-k-init c = refl

pub loop-k-preserved : goal.loop-k-preserved
unfolding denominator one
loop-k-preserved c =
    real_row-step _ c.loop-k.k c.args.ds.now c.loop-k.ds _ c.loop-k.invariant (ap (λ (x : Float). one ⊖ x) c.transfer.ensures) (omega (arith, c.requires))

pub returns : goal.returns
returns c = real_row-all _ c.loop-k.k _ _ c.args.ds.now c.loop-k.invariant (omega (arith, c.requires)) (omega (arith, c.requires, c.loop-k.auto)) c.requires
