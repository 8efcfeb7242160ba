-- `dc_flow::retaining::keep` meets its contract: the buses still to be retained, written over what stands, are all of them.
use Rattle.prelude.proofs.Prelude.{refl, ap, ◌∙◌, ◌<◌, add-one, arith, length, zero-add, length-replicate, length-set}
use Rattle.lists.specs.Buses.{mem, others}
use Rattle.dc_flow.specs.Dc.{retained_of, retained_slice}
use Rattle.dc_flow.specs.Inner.Rows.{mark_of}
use Rattle.dc_flow.proofs.RetainedLaws.{mark-tells, retained-here, retained-skip, retained-fit}
use Rattle.lists.proofs.Stores.{up_to-end, sets-front}
use Rattle.dc_flow.proofs.retaining.keep.Goals.{then-marks-k-eq0, else-marks-k-eq0}
use Rattle.dc_flow.proofs.retaining.keep.Goals as goal

pub loop-k-init : goal.loop-k-init
unfolding retained_of
loop-k-init c = (omega arith, ap length c.requires.0 ∙ length-replicate c.args.n 0, zero-add _, refl)

pub loop-k-preserved : goal.loop-k-preserved
unfolding mark_of
loop-k-preserved c =
    let h : c.loop-k.k < c.args.n = c.loop-k-test.true in
    let tells = mark-tells (mem c.loop-k.k c.args.interior.now) _ (c.requires.2 c.loop-k.k (omega (arith, c.requires.1))) in
    elim c.if-marks-k-eq0.branch [
      | then-marks-k-eq0 w ↦
          let here = retained-here c.args.n c.loop-k.k c.args.interior.now h (tells.0 w.if-marks-k-eq0.true) in
          let more = rw here at c.loop-k.invariant.2 in
          rw (w.retained-is, w.count-is) (omega arith, length-set c.loop-k.retained _ _ ∙ c.loop-k.invariant.1, omega arith, rw (add-one c.loop-k.count) (rw here at c.loop-k.invariant.3))
      | else-marks-k-eq0 w ↦
          let skip = retained-skip c.args.n c.loop-k.k c.args.interior.now h (tells.1 w.if-marks-k-eq0.false) in
          rw (w.count-is, w.retained-is) (omega arith, c.loop-k.invariant.1, (rw skip at c.loop-k.invariant.2), (rw skip at c.loop-k.invariant.3))
    ]

pub returns : goal.returns
unfolding retained_slice others
returns c =
    let end = up_to-end c.args.n c.loop-k.k c.loop-k-test.false in
    let all = rw end at c.loop-k.invariant.2 in
    record { count = omega arith; output = (rw end at c.loop-k.invariant.3) ∙ rw c.requires.0 (sets-front c.args.n 0 (retained_of c.args.n c.args.interior.now) (retained-fit c.args.n c.args.interior.now)) }
