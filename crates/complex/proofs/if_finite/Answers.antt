-- `complex::if_finite` meets its contract.
use Rattle.prelude.proofs.Prelude.{sym, ◌∙◌}
use Rattle.complex.specs.Computed.{of_parts}
use Rattle.complex.proofs.Leaves.{parts-finite, pair-by}
use Rattle.complex.proofs.if_finite.Goals as goal

pub returns : goal.returns
returns c = let z = c.args.c in c.then_some.ensures ∙ pair-by (of_parts z) z _ (c.both_finite.ensures ∙ sym (parts-finite z))
