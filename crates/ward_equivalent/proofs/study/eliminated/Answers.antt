-- `ward_equivalent::study::eliminated` meets its contract.
use Rattle.prelude.proofs.Prelude.{◌≡◌, refl, sym, ap, ◌∙◌, ◌-◌, arith, length}
use Rattle.std.proofs.Common.{Ok}
use Rattle.std.proofs.lemmas.Result.{err_from_is_err_and}
use Rattle.complex.specs.{zeros}
use Rattle.ward_equivalent.specs.Calls.{outputs_of}
use Rattle.ward_equivalent.specs.Inner.Listed.{StudySlices}
use Rattle.ward_equivalent.proofs.Studied.{same_after}
use Rattle.ward_equivalent.proofs.Kept.{work-split, front_fits}
use Rattle.ward_equivalent.proofs.Decided.{decided-refused, decided-together, decided-apart}
use Rattle.ward_equivalent.proofs.study.eliminated.Goals.{After-decide, Start}
use Rattle.ward_equivalent.proofs.study.eliminated.Goals as goal

pub decide-requires : goal.decide-requires
decide-requires c =
    (c.requires.0, c.requires.1.work)

-- decided: the lengths are as they were
module _ (c : After-decide) where
  abbrev start : Start
  start = (goal.at.After-decide c).Start

  long : length c.decide.new.work ≡ length start.args.work.now
  long = c.decide.auto.work

  slices : StudySlices (length start.args.study.buses.now) start.args.study.e start.args.study.f (outputs_of start.args.to.now start.args.active.now start.args.reactive.now c.decide.new.work)
  slices =
      record { y-ward = start.requires.1.y-ward; p-ward = start.requires.1.p-ward; q-ward = start.requires.1.q-ward; work = long ∙ start.requires.1.work }

pub filled-requires : goal.filled-requires
filled-requires c =
    (slices (goal.at.filled-requires c).After-decide, record { start = let w = long (goal.at.filled-requires c).After-decide ∙ (start (goal.at.filled-requires c).After-decide).requires.1.work in omega (arith, w); columns = omega (arith, (start (goal.at.filled-requires c).After-decide).args.study.first, (start (goal.at.filled-requires c).After-decide).args.study.last); fit = omega (arith, long (goal.at.filled-requires c).After-decide); end = (start (goal.at.filled-requires c).After-decide).requires.1.work; column = omega arith })

pub filled-requires-in-Apart : goal.filled-requires-in-Apart
filled-requires-in-Apart c =
    let s = start (goal.at.filled-requires-in-Apart c).After-decide in let w = long (goal.at.filled-requires-in-Apart c).After-decide ∙ s.requires.1.work ∙ work-split s.args.study.e (length s.args.study.buses.now - s.args.study.e) (length s.args.study.buses.now) (omega (arith, s.args.study.first, s.args.study.last)) in
    (slices (goal.at.filled-requires-in-Apart c).After-decide, record { start = sym w; columns = omega arith; fit = omega (arith, w); end = refl; column = omega arith })

pub returns-in-Together : goal.returns-in-Together
returns-in-Together c =
    let s = start (goal.at.returns-in-Together c).After-decide in c.filled.ensures
    ∙ decided-together s.args.study.matrix.n s.args.study.matrix.y.now s.args.study.buses.now s.args.study.e s.args.study.f s.args.study.injections.base s.args.study.injections.p.now s.args.study.injections.q.now s.requires.0 s.args.study.first s.args.study.last s.args.allowed _ (outputs_of s.args.to.now s.args.active.now s.args.reactive.now s.args.work.now) (long (goal.at.returns-in-Together c).After-decide) s.requires.1.work _ c.decide.ensures _ (sym (long (goal.at.returns-in-Together c).After-decide)) _ (c.in_ok-reduced.was ∙ ap Ok c.in-Together.is)

pub returns-in-Apart : goal.returns-in-Apart
returns-in-Apart c =
    let s = start (goal.at.returns-in-Apart c).After-decide in c.filled-in-Apart.ensures
    ∙ decided-apart s.args.study.matrix.n s.args.study.matrix.y.now s.args.study.buses.now s.args.study.e s.args.study.f s.args.study.injections.base s.args.study.injections.p.now s.args.study.injections.q.now s.requires.0 s.args.study.first s.args.study.last s.args.allowed _ (outputs_of s.args.to.now s.args.active.now s.args.reactive.now s.args.work.now) (long (goal.at.returns-in-Apart c).After-decide) s.requires.1.work _ c.decide.ensures _ (c.in_ok-reduced.was ∙ ap Ok c.in-Apart.is)

pub returns-in_err-reduced : goal.returns-in_err-reduced
returns-in_err-reduced c =
    let p = err_from_is_err_and c.from_residual.result c.from_residual.ensures.1 in
    rw (p.1, p.2) (let s = start (goal.at.returns-in_err-reduced c).After-decide in same_after refl refl refl refl (c.decide.ensures.cleared _ c.in_err-reduced.was ∙ ap zeros (long (goal.at.returns-in_err-reduced c).After-decide))
    ∙ sym (decided-refused s.args.study.matrix.n s.args.study.matrix.y.now s.args.study.buses.now s.args.study.e s.args.study.f s.args.study.injections.base s.args.study.injections.p.now s.args.study.injections.q.now s.requires.0 s.args.study.first s.args.study.last s.args.allowed _ (outputs_of s.args.to.now s.args.active.now s.args.reactive.now s.args.work.now) (long (goal.at.returns-in_err-reduced c).After-decide) s.requires.1.work _ c.decide.ensures _ c.in_err-reduced.was))

pub overflow_mul-a : goal.overflow_mul-a
overflow_mul-a c = record { fits = (front_fits c.args.study.e (omega (arith, c.args.study.first, c.args.study.last, c.args.study.distinct, c.args.study.few))).0.fits }

pub overflow_mul-a-2 : goal.overflow_mul-a-2
overflow_mul-a-2 c = record { fits = (front_fits c.args.study.e (omega (arith, c.args.study.first, c.args.study.last, c.args.study.distinct, c.args.study.few))).1.fits }
