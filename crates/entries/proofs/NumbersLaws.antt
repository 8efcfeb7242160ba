-- Bytes and numbers: lengths that fit, and what a conversion answers.
use Rattle.prelude.proofs.Prelude.{◌≡◌, refl, Bool, true, false, arith, cond, ℕ, ◌*◌, eqb, eqb-true}
use Rattle.std.proofs.Common.{Ok}
use Rattle.refusals.specs.Refusals.{answered, outcome, number_of}
use Rattle.refusals.proofs.Answering.{accepted}
use Rattle.entries.specs.Numbers.{misfit}

-- where the bytes are answered to fit
pub fits : (k b n : ℕ) → Ok (tt {0}) ≡ outcome (misfit k b n) → b ≡ k * n
unfolding misfit
fits k b n h = go (eqb b (k * n)) refl (accepted (tt {0}) (tt {0}) _ tt h).0
  where
    go : (t : Bool) → eqb b (k * n) ≡ t → ◌≡◌ {A = ℕ} (cond t 0 2) 0 → b ≡ k * n
    go true e z = eqb-true b (k * n) e
    go false e z = absurd (let two : ◌≡◌ {A = ℕ} 2 0 = z in omega arith)

-- the number of what is answered
pub told : (k b n : ℕ) → number_of (outcome (misfit k b n)) ≡ misfit k b n
unfolding misfit answered
told k b n = elim (eqb b (k * n)) as (λ t. number_of (outcome (cond t 0 2)) ≡ cond t 0 2) [ true ↦ refl | false ↦ refl ]
