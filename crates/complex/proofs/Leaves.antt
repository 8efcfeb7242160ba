-- What an operation answers by its result alone.
use Rattle.std.specs.Bool.{then_some}
use Rattle.std.proofs.Common.{Option, Some, None}
use Rattle.prelude.proofs.Prelude.{◌≡◌, refl, sym, ap, ◌∙◌, Bool, true, false, ◌&&◌, cond, true≢false, List, [], ◌∷◌, Float, nan, inf, fin, neg, finite}
use Rattle.binary64.specs.Values.{all_finite}
use Rattle.complex.specs.declared.Complex.{Complex}
use Rattle.complex.specs.Arithmetic.{cneg, sqmag, cdiv}
use Rattle.complex.specs.Computed.{of_parts, of_quotient}
use Rattle.complex.specs.Magnitude.{abs}
use Rattle.complex.specs.Leaves.{pair, real}
use Rattle.complex.proofs.Sticky.{quotient-tells}

pub parts-finite : (c : Complex) → all_finite (of_parts c) ≡ (finite c.re && finite c.im)
unfolding all_finite
parts-finite c = go (finite c.re) (finite c.im)
  where
    go : (a b : Bool) → (a && (b && true)) ≡ (a && b)
    go true true = refl
    go true false = refl
    go false b = refl

pub pair-finite : (xs : List Float) (c : Complex) → all_finite xs ≡ true → Some c ≡ pair xs c
unfolding pair
pair-finite xs c h = rw h

pub pair-none : (xs : List Float) (c : Complex) → all_finite xs ≡ false → None ≡ pair xs c
unfolding pair
pair-none xs c h = rw h

pub pair-by : (xs : List Float) (c : Complex) (b : Bool) → b ≡ all_finite xs → then_some b c ≡ pair xs c
unfolding pair
pair-by xs c b e = rw e (go (all_finite xs))
  where
    go : (a : Bool) → then_some a c ≡ cond a (Some c) None
    go true = refl
    go false = refl

pub pair_same : (xs ys : List Float) (c : Complex) → all_finite xs ≡ all_finite ys → pair xs c ≡ pair ys c
unfolding pair
pair_same xs ys c h = ap (λ (t : Bool). cond t (Some c) None) h

-- the answer of a test of the result z, which is c
pub tested : (answer : Option Complex) (z c : Complex) (xs : List Float) → z ≡ c → answer ≡ pair (of_parts z) z → all_finite (of_parts c) ≡ all_finite xs
    → answer ≡ pair xs c
tested answer z c xs e h k = h ∙ ap (λ (y : Complex). pair (of_parts y) y) e ∙ pair_same (of_parts c) xs c k

pub real-finite : (xs : List Float) (x : Float) → all_finite xs ≡ true → Some x ≡ real xs x
unfolding real
real-finite xs x h = rw h

pub real-none : (xs : List Float) (x : Float) → all_finite xs ≡ false → None ≡ real xs x
unfolding real
real-none xs x h = rw h

pub real-by : (xs : List Float) (x : Float) (b : Bool) → b ≡ all_finite xs → then_some b x ≡ real xs x
unfolding real
real-by xs x b e = rw e (go (all_finite xs))
  where
    go : (a : Bool) → then_some a x ≡ cond a (Some x) None
    go true = refl
    go false = refl

pub real_same : (xs ys : List Float) (x : Float) → all_finite xs ≡ all_finite ys → real xs x ≡ real ys x
unfolding real
real_same xs ys x h = ap (λ (t : Bool). cond t (Some x) None) h

-- one number
pub one-finite : (x : Float) → all_finite (x ∷ []) ≡ finite x
unfolding all_finite
one-finite x = go (finite x)
  where
    go : (b : Bool) → (b && true) ≡ b
    go true = refl
    go false = refl

pub real-tested : (answer : Option Float) (z x : Float) (xs : List Float) → z ≡ x → answer ≡ real (z ∷ []) z → finite x ≡ all_finite xs → answer ≡ real xs x
real-tested answer z x xs e h k = h ∙ ap (λ (y : Float). real (y ∷ []) y) e ∙ real_same (x ∷ []) xs x (one-finite x ∙ k)

-- a cleared sign
pub abs-finite : (x : Float) → finite (abs x) ≡ finite x
unfolding abs
abs-finite nan = refl
abs-finite (inf s) = refl
abs-finite (fin s m e) = refl

-- a turned sign
neg-finite : (x : Float) → finite (neg x) ≡ finite x
unfolding neg
neg-finite nan = refl
neg-finite (inf s) = refl
neg-finite (fin s m e) = refl

pub turned_same : (c : Complex) → all_finite (of_parts (cneg c)) ≡ all_finite (of_parts c)
unfolding cneg
turned_same c = parts-finite (cneg c) ∙ go (finite c.re) (finite c.im) (neg-finite c.re) (neg-finite c.im) ∙ sym (parts-finite c)
  where
    go : (a b : Bool) → finite (neg c.re) ≡ a → finite (neg c.im) ≡ b → (finite (neg c.re) && finite (neg c.im)) ≡ (a && b)
    go a b h k = rw (h, k)

-- a quotient, by the test of the divisor's squared magnitude
pub divided : (a b : Complex) → finite (sqmag b) ≡ true → all_finite (of_parts (cdiv a b)) ≡ all_finite (of_quotient a b)
divided a b h = go (finite (sqmag b)) h (quotient-tells a b)
  where
    go : (t : Bool) → t ≡ true → (t && all_finite (of_parts (cdiv a b))) ≡ all_finite (of_quotient a b) → all_finite (of_parts (cdiv a b)) ≡ all_finite (of_quotient a b)
    go true h k = k
    go false h k = absurd (true≢false (sym h))

pub undivided : (a b : Complex) → finite (sqmag b) ≡ false → all_finite (of_quotient a b) ≡ false
undivided a b h = sym (ap (λ (t : Bool). t && all_finite (of_parts (cdiv a b))) (sym h) ∙ quotient-tells a b)
