-- Every number that the call tells has a refusal.
use Rattle.prelude.proofs.Prelude.{refl, not, ◌&&◌, ℕ, eqb}
use Rattle.refusals.specs.declared.Refusal.TheVariants.{WrongLength}
use Rattle.refusals.specs.Refusals.{answered}
use Rattle.refusals.proofs.Answering.{Told, told-refuse}
use Rattle.reduce_text.specs.Reduce.{output_length, matrix_length, reduce_refusal}

pub reduce-numbered : (out ys : ℕ) → Told (reduce_refusal out ys)
unfolding reduce_refusal answered
reduce-numbered out ys = told-refuse (not (eqb out output_length && eqb ys matrix_length)) WrongLength 0 refl
