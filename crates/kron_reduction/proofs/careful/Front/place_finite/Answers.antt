-- `kron_reduction::careful::Front::place_finite` meets its contract.
use Rattle.prelude.proofs.Prelude.{ap, ◌∙◌}
use Rattle.std.proofs.Common.{is_some}
use Rattle.complex.specs.{entry_at}
use Rattle.kron_reduction.proofs.Told.{same_numbers, told-place, pair-told}
use Rattle.kron_reduction.proofs.careful.Front.place_finite.Goals as goal

pub returns-else-j-k : goal.returns-else-j-k
returns-else-j-k c =
    told-place c.args.k (entry_at c.args.self.now.n c.args.self.now.y.now) c.args.i c.args.j c.is_some.result
    (c.is_some.ensures ∙ ap is_some c.entry_answer.ensures ∙ pair-told _ _ ∙ same_numbers _ _ _ _ _ _ _ _ c.at.ensures c.at-else-j-k.ensures c.at-else-j-k-2.ensures c.at-else-j-k-3.ensures)
    c.if-j-k.false.0 c.if-j-k.false.1
