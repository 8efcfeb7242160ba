-- `ward_equivalent::study::unreduced` meets its contract.
use Rattle.prelude.proofs.Prelude.{subst, sym, ap, ◌∙◌, ℕ, ◌*◌, arith, length, sub-zero}
use Rattle.complex.specs.{plus0}
use Rattle.refusals.specs.declared.Allowance.TheVariants.{Rows}
use Rattle.ward_equivalent.specs.Ward.{Outputs}
use Rattle.ward_equivalent.specs.Studied.{studied}
use Rattle.ward_equivalent.specs.Inner.Listed.{cut, StudySlices}
use Rattle.ward_equivalent.specs.Calls.{outputs_of}
use Rattle.ward_equivalent.proofs.Studied.{studied-none}
use Rattle.ward_equivalent.proofs.study.unreduced.Goals.{Start}
use Rattle.ward_equivalent.proofs.study.unreduced.Goals as goal

-- the slices' lengths without an external bus
module _ (s : Start) where
  abbrev o : Outputs
  o = outputs_of s.args.to.now s.args.active.now s.args.reactive.now s.args.work.now

  slices : StudySlices (length s.args.study.buses.now) 0 s.args.study.f o
  slices = subst (λ (e : ℕ). StudySlices (length s.args.study.buses.now) e s.args.study.f o) s.requires.0 s.requires.1

pub submatrix-requires : goal.submatrix-requires
submatrix-requires c =
    (c.args.study.listing, (slices (goal.at.submatrix-requires c).Start).y-ward ∙ ap (λ (m : ℕ). 2 * (m * m)) (sub-zero (length c.args.study.buses.now)))

pub returns : goal.returns
unfolding plus0
returns c =
    let s = (goal.at.returns c).Start in let h = slices s in
    λ (allowed : ℕ).
    studied-none c.args.study.matrix.n c.args.study.matrix.y.now c.args.study.buses.now c.args.study.f c.args.study.injections.base c.args.study.injections.p.now c.args.study.injections.q.now allowed (o s) c.submatrix.new.to c.clear.new.s c.clear-2.new.s
    c.submatrix.ensures c.clear.ensures c.clear-2.ensures h.p-ward h.q-ward (omega (arith, h.work))
    ∙ ap (λ (e : ℕ). studied (cut c.args.study.matrix.n c.args.study.matrix.y.now c.args.study.buses.now e c.args.study.f c.args.study.injections.base c.args.study.injections.p.now c.args.study.injections.q.now) (Rows allowed) (o s) 0) (sym c.requires.0)
