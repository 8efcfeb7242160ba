-- `ward_equivalent::sequence::solve_currents` meets its contract.
use Rattle.prelude.proofs.Prelude.{ap, not}
use Rattle.prelude.proofs.Prelude.{refl, sym, ◌∙◌, ℕ, arith, subst, T}
use Rattle.solver.proofs.Told.{not_done}
use Rattle.ward_equivalent.proofs.Parts.{ended-lost}
use Rattle.ward_equivalent.proofs.Tests.{told-true}
use Rattle.ward_equivalent.proofs.Alone.{currents-lost, currents-ended, currents-solution}
use Rattle.ward_equivalent.proofs.sequence.solve_currents.Goals as goal

pub returns-then-not-all_finite : goal.returns-then-not-all_finite
returns-then-not-all_finite c =
    let long = c.fill.auto.work ∙ c.requires in (
      ended-lost c.args.left _ _ (currents-lost c.args.parts.matrix.n c.args.parts.matrix.y.now c.args.parts.outer.now c.args.parts.external c.args.parts.finite c.args.parts.injections.base c.args.parts.injections.p.now c.args.parts.injections.q.now _ c.fill.ensures long (sym c.all_finite.ensures ∙ c.if-not-all_finite.true)),
      λ (rest : ℕ) d. absurd (not_done refl d),
    )

pub eliminate-requires : goal.eliminate-requires
eliminate-requires c =
    (omega arith, omega (arith, c.args.parts.distinct, c.args.parts.few), c.fill.auto.work ∙ c.requires, subst T c.all_finite.ensures (told-true c.all_finite.result (ap not c.if-not-all_finite.false)))

pub returns : goal.returns
returns c =
    let long = c.fill.auto.work ∙ c.requires in
    let whole = subst T c.all_finite.ensures (told-true c.all_finite.result (ap not c.if-not-all_finite.false)) in (
      currents-ended c.args.parts.matrix.n c.args.parts.matrix.y.now c.args.parts.outer.now c.args.parts.external c.args.parts.finite c.args.parts.injections.base c.args.parts.injections.p.now c.args.parts.injections.q.now _ c.fill.ensures long whole c.args.left _ _ c.eliminate.ensures,
      λ (rest : ℕ) d. currents-solution c.args.parts.matrix.n c.args.parts.matrix.y.now c.args.parts.outer.now c.args.parts.external c.args.parts.finite c.args.parts.injections.base c.args.parts.injections.p.now c.args.parts.injections.q.now _ c.fill.ensures long c.args.left _ _ c.eliminate.ensures rest d,
    )
