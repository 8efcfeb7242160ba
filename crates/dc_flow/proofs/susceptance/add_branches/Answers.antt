-- `dc_flow::susceptance::add_branches` meets its contract: the matrix is that of the branches passed.
use Rattle.prelude.proofs.Prelude.{◌≡◌, ap, ◌∙◌, add-one, arith, length}
use Rattle.complex.proofs.Matrices.{length-zeros}
use Rattle.lists.proofs.Ends.{below_at}
use Rattle.dc_flow.specs.Dc.{susceptances}
use Rattle.dc_flow.proofs.OutageLaws.{to_below}
use Rattle.dc_flow.proofs.susceptance.add_branches.Goals as goal

pub loop-k-init : goal.loop-k-init
unfolding susceptances
loop-k-init c = c.requires.cleared

pub loop-k-preserved : goal.loop-k-preserved
unfolding susceptances
loop-k-preserved c = c.add_branch.ensures ∙ rw (c.loop-k.invariant, add-one)

pub add_branch-requires : goal.add_branch-requires
add_branch-requires c =
    let b = c.args.branches in
    record {
      ends = (below_at b.n b.from.now c.loop-k.k b.ends.0 (omega (arith, c.requires)), to_below b.n c.loop-k.k b.from.now b.to.now b.ends.1 b.counts.2 (omega (arith, c.requires)));
      matrix = c.loop-k.auto.b ∙ ap length c.requires.cleared ∙ length-zeros _;
    }

pub returns : goal.returns
returns c =
    let e : c.loop-k.k ≡ length c.args.branches.from.now = omega (arith, c.requires, c.loop-k.auto) in
    c.loop-k.invariant ∙ rw e
