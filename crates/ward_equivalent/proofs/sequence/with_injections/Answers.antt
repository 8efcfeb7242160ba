-- `ward_equivalent::sequence::with_injections` meets its contract.
use Rattle.prelude.proofs.Prelude.{ap, not}
use Rattle.prelude.proofs.Prelude.{refl, subst, ◌∙◌, ℕ, arith, length, ne_eqb}
use Rattle.std.proofs.Common.{Result, is_ok}
use Rattle.std.proofs.lemmas.Result.{err_from_is_err_and}
use Rattle.refusals.specs.declared.Refusal.{Refusal}
use Rattle.solver.specs.Inner.Work.{Ended}
use Rattle.solver.proofs.Told.{not_done}
use Rattle.ward_equivalent.specs.Inner.Sequence.{steps_of_injections}
use Rattle.ward_equivalent.proofs.Tests.{told-true}
use Rattle.ward_equivalent.proofs.Kept.{injections-first, injections-done, injections-lost}
use Rattle.ward_equivalent.proofs.sequence.with_injections.Goals as goal

pub solve_currents-requires : goal.solve_currents-requires
solve_currents-requires c = c.requires.1

pub returns-in_err-rest : goal.returns-in_err-rest
returns-in_err-rest c =
    let some = ne_eqb (length c.args.parts.outer.now) 0 (λ z. omega (arith, c.args.parts.some, z)) in
    let p = err_from_is_err_and c.from_residual.result c.from_residual.ensures.1 in
    rw (p.1, p.2) (
      subst (λ (t : Result ℕ Refusal). Ended c.args.left t (steps_of_injections c.args.parts.matrix.n c.args.parts.matrix.y.now c.args.parts.outer.now c.args.boundary.now c.args.parts.injections.base c.args.parts.injections.p.now c.args.parts.injections.q.now)) c.in_err-rest.was
          (injections-first c.args.parts.matrix.n c.args.parts.matrix.y.now c.args.parts.outer.now c.args.boundary.now c.args.parts.injections.base c.args.parts.injections.p.now c.args.parts.injections.q.now some c.args.left c.solve_currents.result c.solve_currents.ensures.0 (ap is_ok c.in_err-rest.was)),
      λ (rest : ℕ) d. absurd (not_done refl d),
    )

pub injections_finite-requires : goal.injections_finite-requires
injections_finite-requires c =
    (c.requires.0, record { full = c.solve_currents.auto.front ∙ c.requires.1 }, omega arith)

pub returns-then-not-injections_finite : goal.returns-then-not-injections_finite
returns-then-not-injections_finite c =
    let some = ne_eqb (length c.args.parts.outer.now) 0 (λ z. omega (arith, c.args.parts.some, z)) in (
      injections-lost c.args.parts.matrix.n c.args.parts.matrix.y.now c.args.parts.outer.now c.args.boundary.now c.args.parts.injections.base c.args.parts.injections.p.now c.args.parts.injections.q.now some c.args.left c.solve_currents.result c.solve_currents.ensures.0 _ c.in_ok-rest.was _ (c.solve_currents.ensures.1 _ c.in_ok-rest.was) (c.injections_finite.ensures.fails (c.if-not-injections_finite.true)),
      λ (rest : ℕ) e. absurd (not_done refl e),
    )

pub returns : goal.returns
returns c =
    let some = ne_eqb (length c.args.parts.outer.now) 0 (λ z. omega (arith, c.args.parts.some, z)) in (
      subst (λ (t : Result ℕ Refusal). Ended c.args.left t (steps_of_injections c.args.parts.matrix.n c.args.parts.matrix.y.now c.args.parts.outer.now c.args.boundary.now c.args.parts.injections.base c.args.parts.injections.p.now c.args.parts.injections.q.now)) c.in_ok-rest.was
          (injections-done c.args.parts.matrix.n c.args.parts.matrix.y.now c.args.parts.outer.now c.args.boundary.now c.args.parts.injections.base c.args.parts.injections.p.now c.args.parts.injections.q.now some c.args.left c.solve_currents.result c.solve_currents.ensures.0 _ c.in_ok-rest.was _ (c.solve_currents.ensures.1 _ c.in_ok-rest.was) (c.injections_finite.ensures.holds (told-true c.injections_finite.result (ap not c.if-not-injections_finite.false)))),
      λ (rest : ℕ) d. c.solve_currents.ensures.1 _ c.in_ok-rest.was,
    )
