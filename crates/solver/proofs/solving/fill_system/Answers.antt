-- `solver::solving::fill_system` meets its contract.
use Rattle.prelude.proofs.Prelude.{◌∙◌, ℕ, ◌+◌, ◌<◌}
use Rattle.complex.specs.{entry_at}
use Rattle.solver.specs.Inner.Work.{placed}
use Rattle.solver.proofs.BlockParts.{placed_same}
use Rattle.solver.proofs.Solutions.{system-filled}
use Rattle.solver.proofs.solving.fill_system.Goals as goal

pub returns : goal.returns
returns c =
    let w = c.args.n + 1 in
    let A = entry_at c.args.n c.args.a.now in
    let W = entry_at w c.args.work.now in
    λ (i j : ℕ) (h : i < c.args.n) (k : j < w).
    c.place-2.ensures i j h k
    ∙ placed_same c.args.n 1 i w (entry_at 1 c.args.b.now) (entry_at w c.place.new.work) (placed 0 c.args.n A W) (λ (q : ℕ) (l : q < w). c.place.ensures i q h l) j k
    ∙ system-filled c.args.n A W c.args.b.now i j k
