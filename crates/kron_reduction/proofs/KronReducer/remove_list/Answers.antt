-- `kron_reduction::KronReducer::remove_list` meets its contract. The loop's invariant: the first `done` buses of the list are removed.
use Rattle.prelude.proofs.Prelude.{◌≡◌, refl, ◌∙◌, arith, length}
use Rattle.std.proofs.Common.{Ok}
use Rattle.kron_reduction.specs.Inner.Removal.{left_by, Holds}
use Rattle.kron_reduction.specs.Reducer.{active_of}
use Rattle.kron_reduction.proofs.Taking.{holds-long, first-ordinary, left-is, ongoing-start, ongoing-same, ongoing-holds, ongoing-stopped, ongoing-next, ongoing-left, left-none, took-so-far, took-all}
use Rattle.kron_reduction.proofs.KronReducer.remove_list.Goals.{At-loop-removed, Start}
use Rattle.kron_reduction.proofs.KronReducer.remove_list.Goals as goal

pub loop-removed-init : goal.loop-removed-init
unfolding left_by
loop-removed-init c = (ongoing-start _ _ _ c.requires.0, refl, refl, refl)

-- where the loop stands
module _ (c : At-loop-removed) where
  abbrev start : Start
  start = (goal.at.At-loop-removed c).Start

  full : length (active_of start.args.self.now) ≡ start.args.self.now.n_buses
  full = holds-long start.args.self.now start.args.y.now start.requires.0

  holds : Holds c.loop-removed.self c.loop-removed.y
  holds = ongoing-holds _ _ _ _ _ _ start.requires.0.rises full c.loop-removed.invariant.0 _ start.requires.0.room c.loop-removed.invariant.1 start.requires.0.fits

pub still_ordinary-still-requires : goal.still_ordinary-still-requires
still_ordinary-still-requires c =
    let l = (goal.at.still_ordinary-still-requires c).At-loop-removed in
    let s = start l in
    let h = holds l in (
      h.room,
      h.fits,
      λ z t. first-ordinary _ _ _ _ _ (left-is _ _ _ _ _ _ s.requires.0.rises (full l) l.loop-removed.invariant.0) z (left-none _ _ _ _ _ z l.loop-removed.invariant.3) (s.requires.2 t),
    )

pub remove_one-requires : goal.remove_one-requires
remove_one-requires c =
    let l = (goal.at.remove_one-requires c).At-loop-removed in (holds l, l.loop-removed.invariant.2 ∙ (start l).requires.1, c.still_ordinary-still.ensures)

pub returns-in-Err : goal.returns-in-Err
returns-in-Err c =
    let l = (goal.at.returns-in-Err c).At-loop-removed in
    let s = start l in
    let same = c.remove_one.ensures.refused c.in-Err.refusal c.in-Err.is in
    let ends = ongoing-stopped _ _ _ _ _ _ s.requires.0.rises (full l) l.loop-removed.invariant.0 _ _ _ c.loop-removed-test.true c.remove_one.ensures c.in-Err.refusal c.in-Err.is in
    took-so-far _ _ s.requires.0 _ _ _ _ _ (ongoing-same l.loop-removed.invariant.0 same.0 same.1) ends.0 ends.1 (same.1 ∙ l.loop-removed.invariant.3)

pub loop-removed-preserved : goal.loop-removed-preserved
loop-removed-preserved c =
    let l = (goal.at.loop-removed-preserved c).At-loop-removed in
    let s = start l in
    let done : c.remove_one.result ≡ Ok tt = c.in_default.is in (
      ongoing-next _ _ _ _ _ _ s.requires.0.rises (full l) l.loop-removed.invariant.0 _ _ _ c.loop-removed-test.true c.remove_one.ensures done,
      c.remove_one.auto.y ∙ l.loop-removed.invariant.1,
      c.remove_one.auto.row ∙ l.loop-removed.invariant.2,
      ongoing-left _ _ _ _ _ _ s.requires.0.rises (full l) l.loop-removed.invariant.0 _ _ _ c.loop-removed-test.true c.remove_one.ensures done _ l.loop-removed.invariant.3 c.remove_one.auto.y (holds l).fits,
    )

pub returns : goal.returns
returns c =
    took-all _ _ c.requires.0 _ _ _ _ _ c.loop-removed.invariant.0 (omega arith) c.loop-removed-test.false c.loop-removed.invariant.3
