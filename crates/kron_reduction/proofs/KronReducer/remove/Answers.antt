-- `kron_reduction::KronReducer::remove` meets its contract: the input is refused, by its shapes or by its numbers, or accepted and the list worked off.
use Rattle.prelude.proofs.Prelude.{◌≡◌, is_true, refl, sym, ◌∙◌, subst, rules, T, length}
use Rattle.std.proofs.Common.{Ok}
use Rattle.complex.proofs.Sizes.{ordinary-finite}
use Rattle.refusals.specs.Refusals.{limit, outcome}
use Rattle.refusals.proofs.Answering.{accepted}
use Rattle.kron_reduction.specs.Reducer.{input_shape_refusal}
use Rattle.kron_reduction.specs.Inner.Removal.{Holds}
use Rattle.kron_reduction.proofs.Calls.{shaped-holds, told-shape, told-not, told_none}
use Rattle.kron_reduction.proofs.KronReducer.remove.Goals.{Start, else-not-ordinary-via-then-not-ordinary+else-not-is_finite, else-not-ordinary-via-else-not-ordinary}
use Rattle.kron_reduction.proofs.KronReducer.remove.Goals as goal

full : (c : Start) → length c.args.self.now.active_buses ≡ limit
full c = search rules

-- shapes that tell nothing
module _ (s : Start) (e : Ok tt ≡ outcome (input_shape_refusal s.args.self.now s.args.y.now (length s.args.buses.now))) where
  holds : Holds s.args.self.now s.args.y.now
  holds = shaped-holds s.args.self.now s.args.y.now (length s.args.buses.now) (full s) (accepted (tt {0}) (tt {0}) _ _ e).0

pub returns-in-Err : goal.returns-in-Err
returns-in-Err c = told-shape _ _ _ _ (c.in-Err.ensures c.args.y.now refl)

pub invariant_of-present : goal.invariant_of-present
invariant_of-present c =
    let h = holds (goal.at.invariant_of-present c).Start (c.in_default.ensures c.args.y.now refl) in
    record { fits = (h.room, h.fits) }

pub returns-then-not-is_finite : goal.returns-then-not-is_finite
returns-then-not-is_finite c =
    told-not _ _ _ (c.in_default.ensures c.args.y.now refl) (sym c.is_finite.ensures ∙ c.if-not-is_finite.true)

pub remove_accepted-requires : goal.remove_accepted-requires
remove_accepted-requires c =
    let none = told_none c.args.self.now c.args.y.now c.args.buses.now (c.in_default.ensures c.args.y.now refl) in (
      elim c.else-not-ordinary.branch [
        | else-not-ordinary-via-then-not-ordinary+else-not-is_finite w ↦ none (sym w.is_finite.ensures ∙ w.if-not-is_finite.false)
        | else-not-ordinary-via-else-not-ordinary w ↦ none (is_true _ (ordinary-finite _ (subst T (sym w.if-not-ordinary.false ∙ c.is_ordinary-ordinary.ensures) tt)))
      ],
      λ o. subst T c.is_ordinary-ordinary.ensures o,
    )
