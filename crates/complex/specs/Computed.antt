-- The numbers that each operation computes, in the order of the work.
use Rattle.std.specs.Prelude.{List, [], ◌∷◌, ◌++◌, Float}
use Rattle.complex.specs.declared.Complex.{Complex}
use Rattle.complex.specs.Arithmetic.{◌⊕◌, ◌⊖◌, ◌⊗◌, cadd, csub, cmul, cdiv, sqmag}

abbrev pub of_parts : Complex → List Float
of_parts c = c.re ∷ c.im ∷ []

abbrev pub of_sum : Complex → Complex → List Float
of_sum a b = of_parts (cadd a b)

abbrev pub of_difference : Complex → Complex → List Float
of_difference a b = of_parts (csub a b)

abbrev pub of_product : Complex → Complex → List Float
of_product a b = a.re ⊗ b.re ∷ a.im ⊗ b.im ∷ (cmul a b).re ∷ a.re ⊗ b.im ∷ a.im ⊗ b.re ∷ (cmul a b).im ∷ []

abbrev pub of_sqmag : Complex → List Float
of_sqmag b = b.re ⊗ b.re ∷ b.im ⊗ b.im ∷ sqmag b ∷ []

abbrev pub of_quotient : Complex → Complex → List Float
of_quotient a b =
    of_sqmag b
    ++ (a.re ⊗ b.re ∷ a.im ⊗ b.im ∷ (a.re ⊗ b.re ⊕ a.im ⊗ b.im) ∷ (cdiv a b).re
    ∷ a.im ⊗ b.re ∷ a.re ⊗ b.im ∷ (a.im ⊗ b.re ⊖ a.re ⊗ b.im) ∷ (cdiv a b).im ∷ [])
