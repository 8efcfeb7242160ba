-- `reduce_text::read::read` meets its contract: the reducer, then the drops.
use Rattle.prelude.proofs.Prelude.{sym, ap, ◌∙◌, subst, List, ◌*◌, arith, length, take, drop, Float}
use Rattle.reduce_text.specs.Reading.{drops, finish, run_of}
use Rattle.reduce_text.specs.Inner.Steps.{behind, place_behind, Ended}
use Rattle.reduce_text.proofs.ReadLaws.{ran-in, ran_on, front-is'}
use Rattle.reduce_text.proofs.read.read.Goals as goal

pub after_entries-requires : goal.after_entries-requires
after_entries-requires c = let B = c.in-Ok.ensures in (B.fits.0, omega (arith, c.made.auto.matrix, c.requires))

pub returns-in-Err : goal.returns-in-Err
unfolding run_of
returns-in-Err c = let B = c.in-Err.ensures in rw c.no_reducer.ensures (ran-in (B.goes (drops finish)) B.leaves)

pub returns-in-Ok : goal.returns-in-Ok
unfolding run_of
returns-in-Ok c =
    let B = c.in-Ok.ensures in let s = c.in-Ok.start in let m = 2 * (s.n * s.n) in
    ran_on B.ys m B.fits.1
    (B.goes (drops finish)
    ∙ ap (λ (zs : List Float). drops finish (place_behind s.n) s.rec zs (behind c.args.input.now s.at)) (sym (ap (take m) B.leaves ∙ front-is' B.ys (drop (length B.ys) c.args.matrix.now) m B.fits.1)))
    (subst (λ (zs : List Float). Ended zs m (drops finish (place_behind s.n) s.rec (take m c.made.new.matrix) (behind c.args.input.now s.at)) c.after_entries.result c.after_entries.new.matrix) B.leaves c.after_entries.ensures)
