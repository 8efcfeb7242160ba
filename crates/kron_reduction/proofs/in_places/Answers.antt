-- `kron_reduction::in_places` meets its contract: what stands behind the numbers is what is left of the zeros.
use Rattle.prelude.proofs.Prelude.{ap, ap₂, ◌∙◌, List, ◌++◌, ℕ, length, drop, replicate, sub-zero}
use Rattle.refusals.specs.Refusals.{limit}
use Rattle.lists.proofs.Fronts.{drop-replicate}
use Rattle.kron_reduction.proofs.in_places.Goals as goal

pub returns : goal.returns
returns c =
    let n = length c.args.numbers.now in
    ap₂ (λ (a b : List ℕ). a ++ b) c.copy_from_slice.ensures.after (ap (λ (w : ℕ). drop w (replicate limit 0)) (sub-zero n) ∙ drop-replicate limit n 0)
