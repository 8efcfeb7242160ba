-- `kron_reduction::removal::new_entry` meets its contract: the definition is the code's own expression.
use Rattle.prelude.proofs.Prelude.{ap, ◌∙◌}
use Rattle.complex.specs.{Complex, csub, cdiv}
use Rattle.kron_reduction.specs.Kron.{new_entry}
use Rattle.kron_reduction.proofs.removal.new_entry.Goals as goal

pub returns : goal.returns
unfolding new_entry
returns c =
    c.csub.ensures
    ∙ ap (csub c.args.ij) (c.cdiv.ensures ∙ ap (λ (p : Complex). cdiv p c.args.kk) c.cmul.ensures)
