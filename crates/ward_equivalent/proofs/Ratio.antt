-- The numbers of the ratio are finite: both counts are whole numbers within the limit, and the divisor is at least 1.
use Rattle.prelude.proofs.Prelude.{refl, sym, ◌∙◌, false, ℕ, ◌*◌, ◌^◌, ◌≤◌, ◌<◌, arith, T, lit≤, le_trans, le_of_eq, mul-le-mul_right, Float, nan, inf, fin, binary64, up, down, of_bits}
use native.Mathlib.Nat.{mul-one, one-mul}
use lib.IntN.{pos}
use lib.Ieee.{of_int}
use lib.Ieee.Exact.{HasValue}
use lib.Ieee.Back.{round_whole}
use Rattle.binary64.specs.Values.{all_finite}
use Rattle.binary64.proofs.Magnitudes.{Beyond}
use Rattle.complex.specs.{one, ◌⊖◌, ◌⊘◌}
use Rattle.complex.proofs.Finite.{none, all_more}
use Rattle.complex.proofs.Sizes.{In, in-finite, div-in, sub_in}
use Rattle.refusals.specs.Refusals.{limit}
use Rattle.ward_equivalent.specs.Ward.{ratio}
use Rattle.ward_equivalent.specs.Steps.{of_ratio}

whole_in : (x : Float) (n : ℕ) → n ≤ 256 → HasValue x false n 1 → In 8 x
whole_in nan n h v = v
whole_in (inf s) n h v = v
whole_in (fin s m e) n h v =
    le_trans (le_of_eq (sym (mul-one (m * up e)) ∙ v.1)) (mul-le-mul_right (down e) h)

whole-beyond : (x : Float) (n : ℕ) → 1 ≤ n → HasValue x false n 1 → Beyond (2 ^ 0) x
whole-beyond nan n h v = v
whole-beyond (inf s) n h v = v
whole-beyond (fin s m e) n h v =
    le_trans (le_of_eq (sym (one-mul (down e)))) (le_trans (mul-le-mul_right (down e) h) (le_of_eq (sym v.1 ∙ mul-one (m * up e) ∙ sym (one-mul (m * up e)))))

cast_is : (n : ℕ) → n ≤ 256 → HasValue (of_int binary64 (pos n)) false n 1
unfolding of_int
cast_is n h = round_whole binary64 false n (le_trans h (lit≤ tt))

one_in : In 8 one
unfolding one of_bits
one_in = lit≤ tt

pub ratio-finite : (r n : ℕ) → 0 < n → r ≤ n → n ≤ limit → T (all_finite (of_ratio r n))
unfolding of_ratio ratio
ratio-finite r n some less few =
    let rs = cast_is r (omega arith) in
    let ns = cast_is n few in
    let a : In 8 (of_int binary64 (pos r)) = whole_in (of_int binary64 (pos r)) r (omega arith) rs in
    let b : In 8 (of_int binary64 (pos n)) = whole_in (of_int binary64 (pos n)) n few ns in
    let q : In 8 (of_int binary64 (pos r) ⊘ of_int binary64 (pos n)) = div-in 8 0 8 (of_int binary64 (pos r)) (of_int binary64 (pos n)) refl (lit≤ tt) a (whole-beyond (of_int binary64 (pos n)) n some ns) in
    let d : In 9 (one ⊖ of_int binary64 (pos r) ⊘ of_int binary64 (pos n)) = sub_in 8 9 one (of_int binary64 (pos r) ⊘ of_int binary64 (pos n)) refl (lit≤ tt) one_in q in
    all_more _ _ (in-finite 8 (of_int binary64 (pos r)) a) (all_more _ _ (in-finite 8 (of_int binary64 (pos n)) b)
    (all_more _ _ (in-finite 8 (of_int binary64 (pos r) ⊘ of_int binary64 (pos n)) q) (all_more _ _ (in-finite 9 (one ⊖ of_int binary64 (pos r) ⊘ of_int binary64 (pos n)) d) none)))
