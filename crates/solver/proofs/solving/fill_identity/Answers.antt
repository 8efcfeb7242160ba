-- `solver::solving::fill_identity` meets its contract.
use Rattle.prelude.proofs.Prelude.{ap, ◌∙◌, cond, List, ℕ, ◌+◌, ◌<◌, eqb, length, Float}
use Rattle.complex.specs.{Complex, unit, entry_at}
use Rattle.solver.specs.Inner.Work.{placed, with_identity}
use Rattle.solver.proofs.Solutions.{identity-filled}
use Rattle.solver.proofs.solving.fill_identity.Goals as goal

pub returns : goal.returns
unfolding with_identity
returns c =
    let w = c.args.n + c.args.n in
    let A = entry_at c.args.n c.args.mat.now in
    λ (i j : ℕ) (h : i < c.args.n) (k : j < w).
    c.place_ones.ensures i j h k
    ∙ ap (λ (x : Complex). cond (eqb j (c.args.n + i)) unit x)
    (c.place.ensures i j h k ∙ ap (λ (l : List Float). placed 0 c.args.n A (entry_at w l) i j) c.clear.ensures)
    ∙ identity-filled c.args.n (length c.args.work.now) A c.requires.1 i j h k
