-- `dc_flow::build_b_bus` meets its contract.
use Rattle.prelude.proofs.Prelude.{sym, ap, ◌∙◌, refl}
use Rattle.std.proofs.lemmas.Result.{err_from_is_err_and}
use Rattle.complex.specs.{zeros}
use Rattle.refusals.proofs.Answering.{none, held-refused, held-done}
use Rattle.refusals.proofs.Numbers.{given-before, given-not, given-all}
use Rattle.dc_flow.specs.Dc.{build_refusal, built_output}
use Rattle.dc_flow.proofs.Accepted.{build-shape}
use Rattle.dc_flow.proofs.build_b_bus.Goals as goal

pub returns-in_err-branches : goal.returns-in_err-branches
unfolding build_refusal built_output
returns-in_err-branches c =
    let p = err_from_is_err_and c.from_residual.result c.from_residual.ensures.1 in
    let e = given-before (tt {0}) (tt {0}) _ c.args.branch_x.now _ c.in_err-branches.ensures in
    record { answer = rw (p.1, p.2) e; output = held-refused (tt {0}) _ _ _ _ e }

pub returns-then-not-all_finite : goal.returns-then-not-all_finite
unfolding build_refusal built_output
returns-then-not-all_finite c =
    let shape = none (tt {0}) _ c.in_ok-branches.ensures.0 in
    let e = given-not (tt {0}) (tt {0}) _ c.args.branch_x.now tt shape (sym c.all_finite.ensures ∙ c.if-not-all_finite.true) in
    record { answer = e; output = held-refused (tt {0}) _ _ _ _ e }

pub add_branches-requires : goal.add_branches-requires
add_branches-requires c =
    let (shape, n, from, _) = c.in_ok-branches.ensures in
    let g = build-shape 0 _ _ _ _ _ (sym shape) refl in
    record { cleared = rw n (c.clear.ensures ∙ ap zeros g.1.1.1); counts = rw from g.1.1.0 }

pub returns : goal.returns
unfolding build_refusal built_output
returns c =
    let (shape, n, from, to) = c.in_ok-branches.ensures in
    let e = given-all (tt {0}) (tt {0}) _ c.args.branch_x.now tt (none (tt {0}) _ shape) (sym c.all_finite.ensures ∙ c.if-not-all_finite.false) in
    record { answer = e; output = held-done (tt {0}) _ _ _ tt _ e (rw (n, from, to) at c.add_branches.ensures) }
