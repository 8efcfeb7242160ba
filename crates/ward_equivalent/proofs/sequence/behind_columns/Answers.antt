-- `ward_equivalent::sequence::behind_columns` meets its contract.
use Rattle.prelude.proofs.Prelude.{not}
use Rattle.prelude.proofs.Prelude.{◌≡◌, refl, ap, ◌∙◌, subst, false, List, ℕ, ◌+◌, ◌-◌, ◌*◌, arith, eqb, length, take, drop, Float, ne_eqb, length-drop}
use Rattle.complex.specs.{entry_at}
use Rattle.lists.proofs.Chains.{rest-is}
use Rattle.solver.specs.Inner.Work.{Ended}
use Rattle.solver.proofs.Told.{not_done}
use Rattle.ward_equivalent.specs.Inner.Sequence.{steps_of_injections}
use Rattle.ward_equivalent.proofs.Solved.{listing-take, listing-drop}
use Rattle.ward_equivalent.proofs.Tests.{told-true}
use Rattle.ward_equivalent.proofs.Kept.{front-part, part-rest, entered, not_entered, behind-lost, behind-then, front-behind, front-apart}
use Rattle.ward_equivalent.proofs.sequence.behind_columns.Goals.{Start}
use Rattle.ward_equivalent.proofs.sequence.behind_columns.Goals as goal

-- what is given
module _ (s : Start) where
  abbrev front : ℕ
  front = 2 * (length s.args.parts.outer.now * (length s.args.parts.outer.now + 1))

  some : eqb (length s.args.parts.outer.now) 0 ≡ false
  some = ne_eqb (length s.args.parts.outer.now) 0 (λ z. omega (arith, s.args.parts.some, z))

  part : take (length s.args.work.now - front) (drop front s.args.work.now) ≡ drop front s.args.work.now
  part = part-rest s.args.work.now front

pub entries_finite-requires : goal.entries_finite-requires
entries_finite-requires c =
    (record { full = ap length (part (goal.at.entries_finite-requires c).Start) ∙ length-drop (front (goal.at.entries_finite-requires c).Start) c.args.work.now ∙ omega (arith, c.requires.0) }, omega arith)

pub returns-then-not-entries_finite : goal.returns-then-not-entries_finite
returns-then-not-entries_finite c = (
  behind-lost c.args.parts.matrix.n c.args.parts.matrix.y.now c.args.parts.outer.now c.args.parts.kept.now c.args.parts.internal c.args.parts.injections.base c.args.parts.injections.p.now c.args.parts.injections.q.now (some (goal.at.returns-then-not-entries_finite c).Start) c.args.left
      (not_entered c.args.parts.matrix.n c.args.parts.matrix.y.now c.args.parts.outer.now c.args.parts.kept.now c.args.parts.internal c.args.parts.injections.base c.args.parts.injections.p.now c.args.parts.injections.q.now (some (goal.at.returns-then-not-entries_finite c).Start) c.args.work.now _ (part (goal.at.returns-then-not-entries_finite c).Start) c.requires.1 (c.entries_finite.ensures.fails (c.if-not-entries_finite.true))),
  λ (rest : ℕ) d. absurd (not_done refl d),
)

pub with_injections-requires : goal.with_injections-requires
with_injections-requires c = (
  listing-take c.args.parts.matrix.n c.args.parts.matrix.y.now (drop c.args.parts.internal c.args.parts.kept.now) (length c.args.parts.kept.now - c.args.parts.internal) (listing-drop c.args.parts.matrix.n c.args.parts.matrix.y.now c.args.parts.kept.now c.args.parts.internal c.args.parts.retained),
  front-part (front (goal.at.with_injections-requires c).Start) c.args.work.now (omega (arith, c.requires.0)),
)

pub returns : goal.returns
returns c =
    let fine = entered c.args.parts.matrix.n c.args.parts.matrix.y.now c.args.parts.outer.now c.args.parts.kept.now c.args.parts.internal c.args.parts.injections.base c.args.parts.injections.p.now c.args.parts.injections.q.now (some (goal.at.returns c).Start) c.args.work.now _ (part (goal.at.returns c).Start) c.requires.1 (c.entries_finite.ensures.holds (told-true c.entries_finite.result (ap not c.if-not-entries_finite.false))) in
    let long : length c.with_injections.new.front ≡ front (goal.at.returns c).Start = c.with_injections.auto.front ∙ front-part (front (goal.at.returns c).Start) c.args.work.now (omega (arith, c.requires.0)) in (
      behind-then c.args.parts.matrix.n c.args.parts.matrix.y.now c.args.parts.outer.now c.args.parts.kept.now c.args.parts.internal c.args.parts.injections.base c.args.parts.injections.p.now c.args.parts.injections.q.now (some (goal.at.returns c).Start) c.args.left c.with_injections.result (omega (arith, c.args.parts.some, c.args.parts.distinct)) (omega (arith, c.args.parts.distinct)) c.args.parts.few fine
          (subst (λ (l : List ℕ). Ended c.args.left c.with_injections.result (steps_of_injections c.args.parts.matrix.n c.args.parts.matrix.y.now c.args.parts.outer.now l c.args.parts.injections.base c.args.parts.injections.p.now c.args.parts.injections.q.now)) (rest-is c.args.parts.kept.now c.args.parts.internal) c.with_injections.ensures.0),
      λ (rest : ℕ) d. (
        λ (k col : ℕ) h l. ap (λ (u : List Float). entry_at (length c.args.parts.kept.now) u k col) (front-behind (front (goal.at.returns c).Start) c.args.work.now c.with_injections.new.front long) ∙ c.requires.1 k col h l,
        front-apart c.args.parts.matrix.n c.args.parts.matrix.y.now c.args.parts.outer.now c.args.parts.injections.base c.args.parts.injections.p.now c.args.parts.injections.q.now c.with_injections.new.front _ long (c.with_injections.ensures.1 rest d),
      ),
    )
