use Rattle.prelude.proofs.Prelude.{ℕ, ◌<◌, get_or, T, finite}
use Rattle.ward_equivalent.specs.Arithmetic.{injected_p, injected_q}
use Rattle.ward_equivalent.specs.Inner.Work.{product}
use Rattle.ward_equivalent.proofs.sequence.injections_finite.Given as goal

abbrev pub invariant-loop-bus : goal.invariant-loop-bus
invariant-loop-bus l =
    (j : ℕ) → j < l.bus-index → T (finite (injected_p l.parts.injections.base (product l.parts.matrix.n l.parts.matrix.y.now l.parts.outer.now l.currents.w l.currents.work.now (get_or l.boundary j 0) l.currents.column))) × T (finite (injected_q l.parts.injections.base (product l.parts.matrix.n l.parts.matrix.y.now l.parts.outer.now l.currents.w l.currents.work.now (get_or l.boundary j 0) l.currents.column)))
