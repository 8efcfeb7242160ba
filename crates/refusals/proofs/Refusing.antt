-- Chains of refusals: the first test that holds gives the number. `search refusing` proves what a refusal function returns, whatever tests came
-- before; `search products` that a product of lengths within the limit fits.
use Rattle.prelude.proofs.Prelude.{◌≡◌, sym, ◌∙◌, Bool, true, false, not, ◌&&◌, ◌||◌, cond, ℕ, ◌+◌, ◌*◌, ◌≤◌, arith, rules, T, mul-le-mul, mul-le-mul_left, leb, leb→le, lt-ltb, le-ltb, eq-eqb, ne_eqb}
use Rattle.refusals.proofs.Answering.{here, past, ended}
use mir.Syntax.{w64}
use mir.Val.{Fits}

-- ---- a chain

pub refused : (test : Bool) (k next : ℕ) → test ≡ true → k ≡ cond test k next
refused test k next h = rw h

pub passed : (test : Bool) (r k next : ℕ) → test ≡ false → r ≡ next → r ≡ cond test k next
passed test r k next h e = rw (h, e)

-- ---- a test that a function answered

pub answered-yes : (answer test : Bool) → answer ≡ test → answer ≡ true → test ≡ true
answered-yes answer test e h = sym e ∙ h

pub answered-no : (answer test : Bool) → answer ≡ test → answer ≡ false → test ≡ false
answered-no answer test e h = sym e ∙ h

-- ---- tests put together

pub or-first : (s t : Bool) → s ≡ true → (s || t) ≡ true
or-first s t h = rw h

pub or-second : (s t : Bool) → s ≡ false → t ≡ true → (s || t) ≡ true
or-second s t h g = rw (h, g)

pub or-neither : (s t : Bool) → s ≡ false → t ≡ false → (s || t) ≡ false
or-neither s t h g = rw (h, g)

pub and_both : (s t : Bool) → s ≡ true → t ≡ true → (s && t) ≡ true
and_both s t h g = rw (h, g)

pub and_first : (s t : Bool) → s ≡ false → (s && t) ≡ false
and_first s t h = rw h

pub and_second : (s t : Bool) → s ≡ true → t ≡ false → (s && t) ≡ false
and_second s t h g = rw (h, g)

pub not-held : (t : Bool) → t ≡ true → not t ≡ false
not-held t h = rw h

pub not-failed : (t : Bool) → t ≡ false → not t ≡ true
not-failed t h = rw h

pub ruleset refusing =
    (here, past, ended, refused, passed, answered-yes, answered-no, or-first, or-second, or-neither, and_both, and_first, and_second, not-held, not-failed, lt-ltb, le-ltb, eq-eqb, ne_eqb)

-- ---- products of lengths

pub one_more : (a x : ℕ) → a ≤ x → a + 1 ≤ x + 1
one_more a x h = omega arith

pub product-fits : (a b x y : ℕ) → a ≤ x → b ≤ y → T (leb (x * y) 0xffff_ffff_ffff_ffff) → Fits w64 (a * b)
product-fits a b x y h g t = let m = leb→le (x * y) 0xffff_ffff_ffff_ffff t in let n = mul-le-mul h g in omega arith

pub times-product-fits : (k a b x y : ℕ) → a ≤ x → b ≤ y → T (leb (k * (x * y)) 0xffff_ffff_ffff_ffff) → Fits w64 (k * (a * b))
times-product-fits k a b x y h g t = let m = leb→le (k * (x * y)) 0xffff_ffff_ffff_ffff t in let n = mul-le-mul_left k (mul-le-mul h g) in omega arith

pub ruleset products = (one_more, product-fits, times-product-fits, rules)
