-- `solver::rows::exchange` meets its contract. The invariant: the entries below j have changed places, the others are as they were.
use Rattle.prelude.proofs.Prelude.{◌≡◌, ap, ◌∙◌, List, ℕ, ◌+◌, ◌*◌, ◌≤◌, ◌<◌, arith, length, Float}
use Rattle.complex.specs.{entry, put}
use Rattle.complex.proofs.Entries.{length-put, ext_entry}
use Rattle.solver.proofs.Passed.{put-none, put-more}
use Rattle.solver.proofs.rows.exchange.Invariants.{Taking}
use Rattle.solver.proofs.rows.exchange.Goals as goal

taking-none : (w : ℕ) (old other : List Float) → length old ≡ 2 * w → Taking w old other old 0
taking-none w old other l = record { most = omega arith; long = l; passed = put-none old (entry other) }

-- the next entry comes from the other row, which still has it
taking-more : (w : ℕ) (old other now from next : List Float) (j : ℕ) → j < w → Taking w old other now j → Taking w other old from j
    → next ≡ put now j (entry from j) → Taking w old other next (j + 1)
taking-more w old other now from next j h s f e = rw e (record {
  most = omega arith;
  long = length-put now j (entry from j) ∙ s.long;
  passed = put-more now (entry other) (entry old) j (entry from j) (omega (arith, s.long)) (f.passed.ahead j (omega arith)) s.passed;
})

taking-all : (w : ℕ) (old other now : List Float) (j : ℕ) → w ≤ j → length other ≡ 2 * w → Taking w old other now j → now ≡ other
taking-all w old other now j g l s = ext_entry w now other s.long l (λ (q : ℕ) (h : q < w). s.passed.behind q (omega arith))

pub loop-j-init : goal.loop-j-init
loop-j-init c =
    (taking-none c.args.w c.args.a.now c.args.b.now c.requires.0, taking-none c.args.w c.args.b.now c.args.a.now c.requires.1)

pub loop-j-preserved : goal.loop-j-preserved
loop-j-preserved c = (
  taking-more c.args.w c.args.a.now c.args.b.now c.loop-j.a c.loop-j.b _ c.loop-j.j c.loop-j-test.true c.loop-j.invariant.0 c.loop-j.invariant.1
      (c.put.ensures ∙ ap (put c.loop-j.a c.loop-j.j) c.get-y.ensures),
  taking-more c.args.w c.args.b.now c.args.a.now c.loop-j.b c.loop-j.a _ c.loop-j.j c.loop-j-test.true c.loop-j.invariant.1 c.loop-j.invariant.0
      (c.put-in-loop-j.ensures ∙ ap (put c.loop-j.b c.loop-j.j) c.get-x.ensures),
)

pub returns : goal.returns
returns c = (
  taking-all c.args.w c.args.a.now c.args.b.now c.loop-j.a c.loop-j.j c.loop-j-test.false c.requires.1 c.loop-j.invariant.0,
  taking-all c.args.w c.args.b.now c.args.a.now c.loop-j.b c.loop-j.j c.loop-j-test.false c.requires.0 c.loop-j.invariant.1,
)
