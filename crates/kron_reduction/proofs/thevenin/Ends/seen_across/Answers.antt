-- `kron_reduction::thevenin::Ends::seen_across` meets its contract: the operations' answers are passed on.
use Rattle.prelude.proofs.Prelude.{ap, ◌∙◌, ap₂}
use Rattle.complex.specs.{plus0}
use Rattle.complex.specs.Leaves.{sum, product}
use Rattle.kron_reduction.specs.Reading.{two}
use Rattle.kron_reduction.proofs.Told.{passed-none, passed-some}
use Rattle.kron_reduction.proofs.PassedOn.{impedance-passed-on}
use Rattle.kron_reduction.proofs.thevenin.Ends.seen_across.Goals as goal

pub returns-in_err-own : goal.returns-in_err-own
returns-in_err-own c =
    c.from_residual.ensures ∙ passed-none _ _ (c.in_err-own.ensures ∙ ap₂ sum c.inverse_entry-first.ensures c.inverse_entry-second.ensures) ∙ impedance-passed-on _ _ _

pub returns-in_err-mutual : goal.returns-in_err-mutual
unfolding two plus0
returns-in_err-mutual c =
    c.from_residual-in_err-mutual.ensures
    ∙ passed-none _ _ (c.in_err-mutual.ensures ∙ ap (product (record { re = two; im = plus0 })) c.inverse_entry.ensures)
    ∙ passed-some _ _ _ (c.in_ok-own.ensures ∙ ap₂ sum c.inverse_entry-first.ensures c.inverse_entry-second.ensures)
    ∙ impedance-passed-on _ _ _

pub returns : goal.returns
unfolding two plus0
returns c =
    c.csub.ensures
    ∙ passed-some _ _ _ (c.in_ok-mutual.ensures ∙ ap (product (record { re = two; im = plus0 })) c.inverse_entry.ensures)
    ∙ passed-some _ _ _ (c.in_ok-own.ensures ∙ ap₂ sum c.inverse_entry-first.ensures c.inverse_entry-second.ensures)
    ∙ impedance-passed-on _ _ _
