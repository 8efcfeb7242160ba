-- `dc_flow::lodf_matrix` meets its contract.
use Rattle.prelude.proofs.Prelude.{sym, ap, ◌∙◌, refl, length}
use Rattle.std.proofs.lemmas.Result.{err_from_is_err_and}
use Rattle.refusals.specs.Refusals.{outcome}
use Rattle.refusals.proofs.Answering.{held-refused, held-done}
use Rattle.refusals.proofs.Numbers.{given-before, computed-before}
use Rattle.dc_flow.specs.Dc.{lodf_refusal, lodf_output}
use Rattle.dc_flow.proofs.Accepted.{lodf-shape, lodf-told}
use Rattle.dc_flow.proofs.lodf_matrix.Goals as goal

pub returns-in_err-factors : goal.returns-in_err-factors
unfolding lodf_refusal lodf_output
returns-in_err-factors c =
    let p = err_from_is_err_and c.from_residual.result c.from_residual.ensures.1 in
    let e = computed-before (tt {0}) (tt {0}) _ _ _ (given-before (tt {0}) (tt {0}) _ c.args.ptdf.now _ c.in_err-factors.ensures) in
    record { answer = rw (p.1, p.2) e; output = held-refused (tt {0}) _ _ _ _ e }

pub returns-in_err-finite : goal.returns-in_err-finite
unfolding lodf_output
returns-in_err-finite c =
    let p = err_from_is_err_and c.from_residual-in_err-finite.result c.from_residual-in_err-finite.ensures.1 in
    let e = c.in_err-finite.ensures ∙ ap outcome (lodf-told c.in_ok-factors.factors c.args.n c.args.ptdf.now c.args.branch_from.now c.args.branch_to.now (length c.args.lodf.now) c.in_ok-factors.ensures) in
    record { answer = rw (p.1, p.2) e; output = held-refused (tt {0}) _ _ _ _ e }

pub outages-requires : goal.outages-requires
outages-requires c =
    let (shape, _, _, from, _) = c.in_ok-factors.ensures in
    rw from ((lodf-shape 0 _ _ _ _ _ (sym shape) refl).1.1.1)

pub returns : goal.returns
unfolding lodf_output
returns c =
    let (_, f, n, from, to) = c.in_ok-factors.ensures in
    let e = c.in_ok-finite.ensures ∙ ap outcome (lodf-told c.in_ok-factors.factors c.args.n c.args.ptdf.now c.args.branch_from.now c.args.branch_to.now (length c.args.lodf.now) c.in_ok-factors.ensures) in
    record { answer = e; output = held-done (tt {0}) _ _ _ tt _ e (rw (f, n, from, to) at c.outages.ensures) }
