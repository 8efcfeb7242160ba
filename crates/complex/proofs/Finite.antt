-- Lists of numbers that are all finite; and a zero times a number, where the product is finite, is zero.
use Rattle.prelude.proofs.Prelude.{◌≡◌, refl, ap, ◌∙◌, Bool, true, false, ◌&&◌, List, [], ◌∷◌, ◌++◌, ℕ, zero, suc, ◌<◌, arith, T, length, get_or, Float, nan, inf, fin, Format, mul, and_i, and_l, and_r, finite}
use Rattle.binary64.specs.Values.{all_finite}
use Rattle.binary64.proofs.Floats.{Zero, mul-zero-left}

pub none : T (all_finite [])
unfolding all_finite
none = tt

pub all_more : (x : Float) (xs : List Float) → T (finite x) → T (all_finite xs) → T (all_finite (x ∷ xs))
unfolding all_finite
all_more x xs h k = and_i (finite x) (all_finite xs) h k

pub first_of : (x : Float) (xs : List Float) → T (all_finite (x ∷ xs)) → T (finite x)
unfolding all_finite
first_of x xs h = and_l (finite x) (all_finite xs) h

pub rest_of : (x : Float) (xs : List Float) → T (all_finite (x ∷ xs)) → T (all_finite xs)
unfolding all_finite
rest_of x xs h = and_r (finite x) (all_finite xs) h

pub all_join : (xs ys : List Float) → T (all_finite xs) → T (all_finite ys) → T (all_finite (xs ++ ys))
unfolding all_finite
all_join [] ys h k = k
all_join (x ∷ xs) ys h k =
    and_i (finite x) (all_finite (xs ++ ys)) (and_l (finite x) (all_finite xs) h) (all_join xs ys (and_r (finite x) (all_finite xs) h) k)

-- of two lists, one after the other
pub all_both : (xs ys : List Float) → all_finite (xs ++ ys) ≡ (all_finite xs && all_finite ys)
unfolding all_finite
all_both [] ys = refl
all_both (x ∷ xs) ys = ap (λ (b : Bool). finite x && b) (all_both xs ys) ∙ go (finite x) (all_finite xs) (all_finite ys)
  where
    go : (a b c : Bool) → (a && (b && c)) ≡ ((a && b) && c)
    go true b c = refl
    go false b c = refl

pub all_left : (xs ys : List Float) → T (all_finite (xs ++ ys)) → T (all_finite xs)
unfolding all_finite
all_left [] ys h = tt
all_left (x ∷ xs) ys h = and_i (finite x) (all_finite xs) (and_l (finite x) (all_finite (xs ++ ys)) h) (all_left xs ys (and_r (finite x) (all_finite (xs ++ ys)) h))

pub all_right : (xs ys : List Float) → T (all_finite (xs ++ ys)) → T (all_finite ys)
unfolding all_finite
all_right [] ys h = h
all_right (x ∷ xs) ys h = all_right xs ys (and_r (finite x) (all_finite (xs ++ ys)) h)

pub all-at : (xs : List Float) (i : ℕ) → i < length xs → T (all_finite xs) → T (finite (get_or xs i nan))
unfolding all_finite
all-at [] i l h = absurd (omega arith)
all-at (x ∷ xs) zero l h = and_l (finite x) (all_finite xs) h
all-at (x ∷ xs) (suc i) l h = all-at xs i (omega arith) (and_r (finite x) (all_finite xs) h)

pub zero-times : (f : Format) (x y : Float) → Zero x → T (finite (mul f x y)) → Zero (mul f x y)
unfolding mul
zero-times f nan y z h = absurd z
zero-times f (inf s) y z h = absurd z
zero-times f (fin s (suc m) e) y z h = absurd z
zero-times f (fin s zero e) nan z h = absurd h
zero-times f (fin s zero e) (inf t) z h = absurd h
zero-times f (fin s zero e) (fin t n d) z h = mul-zero-left f (fin s zero e) (fin t n d) tt tt
