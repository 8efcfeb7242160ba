-- The Rust's formulas, asked with Q turned and with their Q turned back, are the study's, to the bit.
use Rattle.prelude.proofs.Prelude.{◌≡◌, refl, ap, ◌∙◌, Float, binary64, neg}
use Rattle.binary64.proofs.Signs.{neg-neg, neg-mul, neg-div}
use Rattle.complex.specs.{Complex, ◌⊗◌, ◌⊘◌}
use Rattle.ward_equivalent.specs.Arithmetic.{current, injected_q}

-- the Rust's current of P and Q, and its Q at the boundary
abbrev rust_current : Float → Float → Float → Complex
rust_current base p q = record { re = p ⊘ base; im = q ⊘ base }

abbrev rust_q : Float → Complex → Float
rust_q base i = neg i.im ⊗ base

pub asked-turned : (base p q : Float) → rust_current base p (neg q) ≡ current base p q
unfolding current
asked-turned base p q = refl

pub answer-turned : (base : Float) (i : Complex) → neg (rust_q base i) ≡ injected_q base i
unfolding injected_q
answer-turned base i = ap neg (neg-mul binary64 i.im base) ∙ neg-neg (i.im ⊗ base)

-- the sign may be turned before the division or after it
pub turned-after : (base p q : Float) → record { re = p ⊘ base; im = neg (q ⊘ base) } ≡ current base p q
unfolding current
turned-after base p q = rw (neg-div binary64 q base) refl
