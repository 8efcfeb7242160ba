-- A number that is not finite stays: where a sum, a difference, a product, or a quotient by a finite squared magnitude is finite, so is every number
-- computed on the way, and every operand.
--     ..-finite   the numbers on the way
--     ..-tells    the result alone tells all of them
--     ..-given    the operands
use Rattle.prelude.proofs.Prelude.{◌≡◌, refl, subst, Bool, true, false, ◌&&◌, cond, [], ◌∷◌, T, inf, binary64, lt, and_i, and_l, and_r, finite}
use Rattle.binary64.specs.Values.{all_finite}
use Rattle.binary64.proofs.Operands.{add-operands, sub-operands, mul-operands, dividend}
use Rattle.complex.specs.declared.Complex.{Complex}
use Rattle.complex.specs.Constants.{division_limit}
use Rattle.complex.specs.Arithmetic.{◌⊕◌, ◌⊖◌, ◌⊗◌, ◌⊘◌, cadd, csub, cmul, cdiv, sqmag}
use Rattle.complex.specs.Computed.{of_parts, of_product, of_sqmag, of_quotient}
use Rattle.complex.proofs.Finite.{none, all_more, all_join, first_of, rest_of}

-- both parts are finite
abbrev pub Finite : Complex → Type 0
Finite c = T (finite c.re) × T (finite c.im)

pub parts_all : (c : Complex) → Finite c → T (all_finite (of_parts c))
parts_all c (r, i) = all_more _ _ r (all_more _ _ i none)

pub all-parts : (c : Complex) → T (all_finite (of_parts c)) → Finite c
all-parts c h = (first_of c.re (c.im ∷ []) h, first_of c.im [] (rest_of c.re (c.im ∷ []) h))

-- two tests that follow from each other
pub same_test : (a b : Bool) → (T a → T b) → (T b → T a) → a ≡ b
same_test true true f g = refl
same_test true false f g = absurd (f tt)
same_test false true f g = absurd (g tt)
same_test false false f g = refl

-- ---- sums and differences

pub sum-given : (a b : Complex) → Finite (cadd a b) → Finite a × Finite b
unfolding cadd
sum-given a b (r, i) =
    let (p, q) = add-operands binary64 a.re b.re r in
    let (u, v) = add-operands binary64 a.im b.im i in
    ((p, u), (q, v))

pub terms-given : (a b : Complex) → Finite (csub a b) → Finite a × Finite b
unfolding csub
terms-given a b (r, i) =
    let (p, q) = sub-operands binary64 a.re b.re r in
    let (u, v) = sub-operands binary64 a.im b.im i in
    ((p, u), (q, v))

-- ---- products

pub product-finite : (a b : Complex) → Finite (cmul a b) → T (all_finite (of_product a b))
unfolding cmul
product-finite a b (r, i) =
    let (p, q) = sub-operands binary64 (a.re ⊗ b.re) (a.im ⊗ b.im) r in
    let (u, v) = add-operands binary64 (a.re ⊗ b.im) (a.im ⊗ b.re) i in
    all_more _ _ p (all_more _ _ q (all_more _ _ r (all_more _ _ u (all_more _ _ v (all_more _ _ i none)))))

pub factors-given : (a b : Complex) → Finite (cmul a b) → Finite a × Finite b
unfolding cmul
factors-given a b (r, i) =
    let (p, q) = sub-operands binary64 (a.re ⊗ b.re) (a.im ⊗ b.im) r in
    let (x, y) = mul-operands binary64 a.re b.re p in
    let (z, w) = mul-operands binary64 a.im b.im q in
    ((x, z), (y, w))

pub product-result : (a b : Complex) → T (all_finite (of_product a b)) → Finite (cmul a b)
unfolding all_finite
product-result a b h = go (finite (a.re ⊗ b.re)) (finite (a.im ⊗ b.im)) (finite (cmul a b).re) (finite (a.re ⊗ b.im)) (finite (a.im ⊗ b.re)) (finite (cmul a b).im) h
  where
    go : (p q r s t u : Bool) → T (p && (q && (r && (s && (t && (u && true)))))) → T r × T u
    go true true true true true true k = (tt, tt)
    go false q r s t u k = elim k [ ]
    go true false r s t u k = elim k [ ]
    go true true false s t u k = elim k [ ]
    go true true true false t u k = elim k [ ]
    go true true true true false u k = elim k [ ]
    go true true true true true false k = elim k [ ]

pub product-tells : (a b : Complex) → all_finite (of_parts (cmul a b)) ≡ all_finite (of_product a b)
product-tells a b =
    same_test _ _ (λ (h : T (all_finite (of_parts (cmul a b)))). product-finite a b (all-parts (cmul a b) h))
    (λ (h : T (all_finite (of_product a b))). parts_all (cmul a b) (product-result a b h))

-- ---- squared magnitudes

pub square-finite : (b : Complex) → T (finite (sqmag b)) → T (all_finite (of_sqmag b))
unfolding sqmag
square-finite b h =
    let (p, q) = add-operands binary64 (b.re ⊗ b.re) (b.im ⊗ b.im) h in
    all_more _ _ p (all_more _ _ q (all_more _ _ h none))

pub square-result : (b : Complex) → T (all_finite (of_sqmag b)) → T (finite (sqmag b))
square-result b h = first_of (sqmag b) [] (rest_of _ _ (rest_of (b.re ⊗ b.re) (b.im ⊗ b.im ∷ sqmag b ∷ []) h))

pub square-tells : (b : Complex) → finite (sqmag b) ≡ all_finite (of_sqmag b)
square-tells b = same_test _ _ (square-finite b) (square-result b)

pub square-given : (b : Complex) → T (finite (sqmag b)) → Finite b
unfolding sqmag
square-given b h =
    let (p, q) = add-operands binary64 (b.re ⊗ b.re) (b.im ⊗ b.im) h in
    ((mul-operands binary64 b.re b.re p).0, (mul-operands binary64 b.im b.im q).0)

-- ---- quotients

-- a quotient that is finite was not by a divisor too small
divided : Complex → Complex → Complex
divided a b = record { re = (a.re ⊗ b.re ⊕ a.im ⊗ b.im) ⊘ sqmag b; im = (a.im ⊗ b.re ⊖ a.re ⊗ b.im) ⊘ sqmag b }

cdiv-is : (a b : Complex) → Finite (cdiv a b) → cdiv a b ≡ divided a b
unfolding cdiv divided
cdiv-is a b h = go (lt (sqmag b) division_limit) h
  where
    go : (t : Bool) → Finite (cond t (record { re = inf false; im = inf false }) (divided a b)) → cond t (record { re = inf false; im = inf false }) (divided a b) ≡ divided a b
    go true k = absurd k.0
    go false k = refl

pub quotient-finite : (a b : Complex) → Finite (cdiv a b) → T (finite (sqmag b)) → T (all_finite (of_quotient a b)) × Finite a
unfolding divided
quotient-finite a b h d =
    let (r, i) = subst Finite (cdiv-is a b h) h in
    let x = dividend binary64 (a.re ⊗ b.re ⊕ a.im ⊗ b.im) (sqmag b) r in
    let y = dividend binary64 (a.im ⊗ b.re ⊖ a.re ⊗ b.im) (sqmag b) i in
    let (p, q) = add-operands binary64 (a.re ⊗ b.re) (a.im ⊗ b.im) x in
    let (u, v) = sub-operands binary64 (a.im ⊗ b.re) (a.re ⊗ b.im) y in (
      all_join (of_sqmag b) _ (square-finite b d)
          (all_more _ _ p (all_more _ _ q (all_more _ _ x (all_more _ _ h.0 (all_more _ _ u (all_more _ _ v (all_more _ _ y (all_more _ _ h.1 none)))))))),
      ((mul-operands binary64 a.re b.re p).0, (mul-operands binary64 a.im b.im q).0),
    )

pub quotient-result : (a b : Complex) → T (all_finite (of_quotient a b)) → Finite (cdiv a b) × T (finite (sqmag b))
unfolding all_finite
quotient-result a b h =
    go (finite (b.re ⊗ b.re)) (finite (b.im ⊗ b.im)) (finite (sqmag b)) (finite (a.re ⊗ b.re)) (finite (a.im ⊗ b.im)) (finite (a.re ⊗ b.re ⊕ a.im ⊗ b.im))
    (finite (cdiv a b).re) (finite (a.im ⊗ b.re)) (finite (a.re ⊗ b.im)) (finite (a.im ⊗ b.re ⊖ a.re ⊗ b.im)) (finite (cdiv a b).im) h
  where
    go : (i j k l m n o p q r s : Bool) → T (i && (j && (k && (l && (m && (n && (o && (p && (q && (r && (s && true))))))))))) → (T o × T s) × T k
    go true true true true true true true true true true true h = ((tt, tt), tt)
    go false j k l m n o p q r s h = elim h [ ]
    go true false k l m n o p q r s h = elim h [ ]
    go true true false l m n o p q r s h = elim h [ ]
    go true true true false m n o p q r s h = elim h [ ]
    go true true true true false n o p q r s h = elim h [ ]
    go true true true true true false o p q r s h = elim h [ ]
    go true true true true true true false p q r s h = elim h [ ]
    go true true true true true true true false q r s h = elim h [ ]
    go true true true true true true true true false r s h = elim h [ ]
    go true true true true true true true true true false s h = elim h [ ]
    go true true true true true true true true true true false h = elim h [ ]

-- the squared magnitude and the quotient tell all
pub quotient-tells : (a b : Complex) → (finite (sqmag b) && all_finite (of_parts (cdiv a b))) ≡ all_finite (of_quotient a b)
quotient-tells a b =
    same_test _ _
    (λ (h : T (finite (sqmag b) && all_finite (of_parts (cdiv a b)))).
    (quotient-finite a b (all-parts (cdiv a b) (and_r (finite (sqmag b)) (all_finite (of_parts (cdiv a b))) h)) (and_l (finite (sqmag b)) (all_finite (of_parts (cdiv a b))) h)).0)
    (λ (h : T (all_finite (of_quotient a b))).
    let (r, d) = quotient-result a b h in and_i (finite (sqmag b)) (all_finite (of_parts (cdiv a b))) d (parts_all (cdiv a b) r))

pub quotient-given : (a b : Complex) → T (all_finite (of_quotient a b)) → Finite a × Finite b
quotient-given a b h = let (r, d) = quotient-result a b h in ((quotient-finite a b r d).1, square-given b d)
