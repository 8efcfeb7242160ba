-- `ward_equivalent::sequence::decide` meets its contract.
use Rattle.prelude.proofs.Prelude.{◌∙◌}
use Rattle.ward_equivalent.specs.Inner.Sequence.{TogetherDone}
use Rattle.ward_equivalent.proofs.Trying.{left-done}
use Rattle.ward_equivalent.proofs.Together.{given-of, left-within, total-fits, decided-beyond, decided-done}
use Rattle.ward_equivalent.proofs.sequence.decide.Goals.{In-Some, Start}
use Rattle.ward_equivalent.proofs.sequence.decide.Goals as goal

-- the one elimination decides
module _ (c : In-Some) where
  abbrev start : Start
  start = (goal.at.In-Some c).Start

  done : TogetherDone start.args.study.matrix.n start.args.study.matrix.y.now start.args.study.buses.now start.args.study.e start.args.study.injections.base start.args.study.injections.p.now start.args.study.injections.q.now start.args.allowed c.in-Some.left c.together.new.work
  done = left-done start.args.study.matrix.n start.args.study.matrix.y.now start.args.study.buses.now start.args.study.e start.args.study.injections.base start.args.study.injections.p.now start.args.study.injections.q.now start.args.allowed start.args.work.now _ c.together.result c.together.ensures _ c.in-Some.is

pub decide_apart-requires : goal.decide_apart-requires
decide_apart-requires c =
    (c.requires.0, c.together.auto.work ∙ c.requires.1)

pub returns-in_default : goal.returns-in_default
returns-in_default c = c.decide_apart.ensures

pub returns-then-reduced-allowed : goal.returns-then-reduced-allowed
returns-then-reduced-allowed c =
    decided-beyond c.args.study.matrix.n c.args.study.matrix.y.now c.args.study.buses.now c.args.study.e c.args.study.f c.args.study.injections.base c.args.study.injections.p.now c.args.study.injections.q.now c.args.work.now c.requires.0 (given-of c.args.study c.args.work.now c.requires.1) c.args.allowed _ _ (done (goal.at.returns-then-reduced-allowed c).In-Some) c.if-reduced-allowed.true _ c.refuse.ensures.0 _ c.refuse.auto.work c.refuse.ensures.1

pub returns : goal.returns
returns c =
    decided-done c.args.study.matrix.n c.args.study.matrix.y.now c.args.study.buses.now c.args.study.e c.args.study.f c.args.study.injections.base c.args.study.injections.p.now c.args.study.injections.q.now c.args.work.now c.requires.0 (given-of c.args.study c.args.work.now c.requires.1) c.args.allowed _ _ (done (goal.at.returns c).In-Some) c.if-reduced-allowed.false

pub overflow_sub-reduced-2 : goal.overflow_sub-reduced-2
overflow_sub-reduced-2 c = left-within c.args.study.matrix.n c.args.study.matrix.y.now c.args.study.buses.now c.args.study.e c.args.study.f c.args.study.injections.base c.args.study.injections.p.now c.args.study.injections.q.now c.args.work.now c.requires.0 (given-of c.args.study c.args.work.now c.requires.1) c.args.allowed _ _ (done c)

pub overflow_mul-reduced : goal.overflow_mul-reduced
overflow_mul-reduced c = record { fits = (total-fits c.args.study.matrix.n c.args.study.matrix.y.now c.args.study.buses.now c.args.study.e c.args.study.f c.args.study.injections.base c.args.study.injections.p.now c.args.study.injections.q.now c.args.work.now c.requires.0 (given-of c.args.study c.args.work.now c.requires.1) c.args.allowed _ _ (done c)).fits }
