-- `ward_equivalent::sequence::together` meets its contract.
use Rattle.prelude.proofs.Prelude.{not}
use Rattle.prelude.proofs.Prelude.{◌≡◌, sym, ap, ◌∙◌, subst, Bool, ◌&&◌, List, ◌+◌, arith, T, length, Float, ap₂, and_i}
use Rattle.binary64.specs.Values.{all_finite}
use Rattle.complex.specs.Inner.Ordinary.{ordinary, all_ordinary}
use Rattle.solver.specs.Inner.Work.{Met}
use Rattle.ward_equivalent.specs.Inner.Sequence.{filled_rows}
use Rattle.ward_equivalent.proofs.Tests.{told-true}
use Rattle.ward_equivalent.proofs.Trying.{filled_is, tried-none, tried-filled, tried-large, tried-done}
use Rattle.ward_equivalent.proofs.sequence.together.Goals.{After-eliminate-end, After-fill, Start, then-not-ordinary-via-then-not-ordinary, then-not-ordinary-via-else-not-ordinary+then-not-all_ordinary}
use Rattle.ward_equivalent.proofs.sequence.together.Goals as goal

pub fill-requires : goal.fill-requires
fill-requires c = (c.args.study.listing, omega (arith, c.args.study.first, c.args.study.last), c.args.study.p_each, c.args.study.q_each, c.requires.1)

pub eliminate-end-requires : goal.eliminate-end-requires
eliminate-end-requires c =
    (omega (arith, c.args.study.first, c.args.study.last), omega (arith, c.args.study.few, c.args.study.distinct), c.fill.auto.work ∙ c.requires.1, subst T c.all_finite.ensures (told-true c.all_finite.result (ap not c.if-not-all_finite.false)))

-- the tests before the slice is filled
module _ (c : After-fill) where
  abbrev start : Start
  start = (goal.at.After-fill c).Start

  fine : T (ordinary start.args.study.injections.base && all_ordinary start.args.study.matrix.y.now)
  fine =
      and_i (ordinary start.args.study.injections.base) (all_ordinary start.args.study.matrix.y.now)
      (subst T c.ordinary.ensures (told-true c.ordinary.result (ap not c.if-not-ordinary.false)))
      (subst T c.all_ordinary.ensures (told-true c.all_ordinary.result (ap not c.if-not-all_ordinary.false)))

  abbrev rows : List Float
  rows = c.fill.new.work

  abbrev xs : List Float
  xs = filled_rows start.args.study.matrix.n start.args.study.matrix.y.now start.args.study.buses.now start.args.study.e start.args.study.injections.base start.args.study.injections.p.now start.args.study.injections.q.now

  same : rows ≡ xs
  same =
      filled_is start.args.study.matrix.n start.args.study.matrix.y.now start.args.study.buses.now start.args.study.e start.args.study.injections.base start.args.study.injections.p.now start.args.study.injections.q.now start.args.allowed start.args.work.now rows (c.fill.auto.work ∙ start.requires.1) c.fill.ensures

pub returns-then-not-ordinary : goal.returns-then-not-ordinary
returns-then-not-ordinary c =
    tried-none c.args.study.matrix.n c.args.study.matrix.y.now c.args.study.buses.now c.args.study.e c.args.study.injections.base c.args.study.injections.p.now c.args.study.injections.q.now c.args.allowed c.args.work.now (
    elim c.then-not-ordinary.branch [
      | then-not-ordinary-via-then-not-ordinary w ↦ ap (λ (b : Bool). b && all_ordinary c.args.study.matrix.y.now) (sym c.ordinary.ensures ∙ w.if-not-ordinary.true)
      | then-not-ordinary-via-else-not-ordinary+then-not-all_ordinary w ↦ ap₂ (λ (x y : Bool). x && y) (sym c.ordinary.ensures ∙ w.if-not-ordinary.false) (sym w.all_ordinary.ensures ∙ w.if-not-all_ordinary.true)
    ]
    )

pub returns-then-not-all_finite : goal.returns-then-not-all_finite
returns-then-not-all_finite c =
    tried-filled (start (goal.at.returns-then-not-all_finite c).After-fill).args.study.matrix.n (start (goal.at.returns-then-not-all_finite c).After-fill).args.study.matrix.y.now (start (goal.at.returns-then-not-all_finite c).After-fill).args.study.buses.now (start (goal.at.returns-then-not-all_finite c).After-fill).args.study.e (start (goal.at.returns-then-not-all_finite c).After-fill).args.study.injections.base (start (goal.at.returns-then-not-all_finite c).After-fill).args.study.injections.p.now (start (goal.at.returns-then-not-all_finite c).After-fill).args.study.injections.q.now (start (goal.at.returns-then-not-all_finite c).After-fill).args.allowed (start (goal.at.returns-then-not-all_finite c).After-fill).args.work.now (fine (goal.at.returns-then-not-all_finite c).After-fill) (rows (goal.at.returns-then-not-all_finite c).After-fill) (same (goal.at.returns-then-not-all_finite c).After-fill) (ap all_finite (sym (same (goal.at.returns-then-not-all_finite c).After-fill)) ∙ sym c.all_finite.ensures ∙ c.if-not-all_finite.true)

-- the elimination
module _ (c : After-eliminate-end) where
  abbrev filled : After-fill
  filled = (goal.at.After-eliminate-end c).After-fill

  numbers : T (all_finite (xs filled))
  numbers = subst (λ (l : List Float). T (all_finite l)) (same filled) (subst T c.all_finite.ensures (told-true c.all_finite.result (ap not c.if-not-all_finite.false)))

  abbrev after : List Float
  after = c.eliminate-end.new.work

  ran : Met (start filled).args.study.e (length (start filled).args.study.buses.now + 1) (start filled).args.allowed c.eliminate-end.result (xs filled) after
  ran = subst (λ (l : List Float). Met (start filled).args.study.e (length (start filled).args.study.buses.now + 1) (start filled).args.allowed c.eliminate-end.result l after) (same filled) c.eliminate-end.ensures

pub returns-then-not-all_ordinary-2 : goal.returns-then-not-all_ordinary-2
returns-then-not-all_ordinary-2 c =
    let f = filled (goal.at.returns-then-not-all_ordinary-2 c).After-eliminate-end in tried-large (start f).args.study.matrix.n (start f).args.study.matrix.y.now (start f).args.study.buses.now (start f).args.study.e (start f).args.study.injections.base (start f).args.study.injections.p.now (start f).args.study.injections.q.now (start f).args.allowed (start f).args.work.now (fine f) (numbers (goal.at.returns-then-not-all_ordinary-2 c).After-eliminate-end) (after (goal.at.returns-then-not-all_ordinary-2 c).After-eliminate-end) c.eliminate-end.result (ran (goal.at.returns-then-not-all_ordinary-2 c).After-eliminate-end) (sym c.all_ordinary-2.ensures ∙ c.if-not-all_ordinary-2.true)

pub returns : goal.returns
returns c =
    let f = filled (goal.at.returns c).After-eliminate-end in tried-done (start f).args.study.matrix.n (start f).args.study.matrix.y.now (start f).args.study.buses.now (start f).args.study.e (start f).args.study.injections.base (start f).args.study.injections.p.now (start f).args.study.injections.q.now (start f).args.allowed (start f).args.work.now (fine f) (numbers (goal.at.returns c).After-eliminate-end) (after (goal.at.returns c).After-eliminate-end) c.eliminate-end.result (ran (goal.at.returns c).After-eliminate-end) (subst T c.all_ordinary-2.ensures (told-true c.all_ordinary-2.result (ap not c.if-not-all_ordinary-2.false))) _ c.ok.ensures.value
