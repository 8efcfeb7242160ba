-- `ward_equivalent::sequence::decide_apart` meets its contract.
use Rattle.prelude.proofs.Prelude.{◌≡◌, sym, ap, ◌∙◌, ℕ, ◌+◌, ◌-◌, ◌*◌, arith, length, take, drop, sub-zero, length-drop, length-take-le}
use Rattle.lists.proofs.Chains.{rest-is}
use Rattle.ward_equivalent.proofs.Solved.{listing-take, listing-drop}
use Rattle.ward_equivalent.proofs.Kept.{work-split}
use Rattle.ward_equivalent.proofs.Decided.{apart-refused, apart-done}
use Rattle.ward_equivalent.proofs.sequence.decide_apart.Goals.{Start}
use Rattle.ward_equivalent.proofs.sequence.decide_apart.Goals as goal

-- the external buses, and the others
module _ (s : Start) where
  external : take (s.args.study.e - 0) s.args.study.buses.now ≡ take s.args.study.e s.args.study.buses.now
  external = ap (λ (m : ℕ). take m s.args.study.buses.now) (sub-zero s.args.study.e)

  externals : length (take (s.args.study.e - 0) s.args.study.buses.now) ≡ s.args.study.e
  externals = ap length external ∙ length-take-le s.args.study.e s.args.study.buses.now (omega (arith, s.args.study.first, s.args.study.last))

  others : length (take (length s.args.study.buses.now - s.args.study.e) (drop s.args.study.e s.args.study.buses.now)) ≡ length s.args.study.buses.now - s.args.study.e
  others = ap length (rest-is s.args.study.buses.now s.args.study.e) ∙ length-drop s.args.study.e s.args.study.buses.now

pub one_by_one-requires : goal.one_by_one-requires
one_by_one-requires c =
    let x = externals (goal.at.one_by_one-requires c).Start in let o = others (goal.at.one_by_one-requires c).Start in
    let long : length c.args.work.now ≡ 2 * (c.args.study.e * (c.args.study.e + 1)) + 2 * (c.args.study.e * (length c.args.study.buses.now - c.args.study.e)) = c.requires.1 ∙ work-split c.args.study.e (length c.args.study.buses.now - c.args.study.e) (length c.args.study.buses.now) (omega (arith, c.args.study.first, c.args.study.last)) in
    long ∙ ap (λ (m : ℕ). 2 * (m * (m + 1)) + 2 * (m * (length c.args.study.buses.now - c.args.study.e))) (sym x) ∙ ap (λ (m : ℕ). 2 * (length (take (c.args.study.e - 0) c.args.study.buses.now) * (length (take (c.args.study.e - 0) c.args.study.buses.now) + 1)) + 2 * (length (take (c.args.study.e - 0) c.args.study.buses.now) * m)) (sym o)

-- the two lists are those of the study
pub invariant_of-parts : goal.invariant_of-parts
invariant_of-parts c =
    let x = externals (goal.at.invariant_of-parts c).Start in let o = others (goal.at.invariant_of-parts c).Start in
    record {
      external = listing-take c.args.study.matrix.n c.args.study.matrix.y.now c.args.study.buses.now (c.args.study.e - 0) c.args.study.listing;
      retained = listing-take c.args.study.matrix.n c.args.study.matrix.y.now (drop c.args.study.e c.args.study.buses.now) (length c.args.study.buses.now - c.args.study.e) (listing-drop c.args.study.matrix.n c.args.study.matrix.y.now c.args.study.buses.now c.args.study.e c.args.study.listing);
      some = omega (arith, x, c.requires.0);
      distinct = omega (arith, x, o, c.args.study.distinct, c.args.study.first, c.args.study.last);
      few = c.args.study.few;
      last = omega (arith, o, c.args.study.first, c.args.study.last);
      p_each = c.args.study.p_each ∙ sym x;
      q_each = c.args.study.q_each ∙ sym x;
      finite = c.args.study.finite;
    }

pub returns-in-Ok : goal.returns-in-Ok
returns-in-Ok c =
    apart-done c.args.study.matrix.n c.args.study.matrix.y.now c.args.study.buses.now c.args.study.e c.args.study.f c.args.study.injections.base c.args.study.injections.p.now c.args.study.injections.q.now c.args.study.first c.args.allowed _ _ _ (external (goal.at.returns-in-Ok c).Start) (rest-is c.args.study.buses.now c.args.study.e) c.one_by_one.result c.one_by_one.ensures.0 _ c.in-Ok.is (c.one_by_one.ensures.1 _ c.in-Ok.is).0 (c.one_by_one.ensures.1 _ c.in-Ok.is).1

pub returns-in-Err : goal.returns-in-Err
returns-in-Err c =
    apart-refused c.args.study.matrix.n c.args.study.matrix.y.now c.args.study.buses.now c.args.study.e c.args.study.f c.args.study.injections.base c.args.study.injections.p.now c.args.study.injections.q.now c.args.study.first c.args.allowed _ _ _ (external (goal.at.returns-in-Err c).Start) (rest-is c.args.study.buses.now c.args.study.e) c.one_by_one.result c.one_by_one.ensures.0 _ c.in-Err.is _ c.refuse.ensures.0 _ c.refuse.auto.work c.refuse.ensures.1

pub overflow_sub-result : goal.overflow_sub-result
overflow_sub-result c = let e = c.one_by_one.ensures.0.count _ c.in-Ok.is in omega (arith, e)
