-- `text_numbers::hexadecimal` meets its contract: what is read so far, and the digits left, make the word.
use Rattle.prelude.proofs.Prelude.{◌≡◌, sym, ◌∙◌, subst, ℕ, ◌+◌, ◌*◌, ◌<◌, arith, ◌^◌, lt_of_lt_of_le}
use lib.Pow.{pow_mono, pow-add}
use Rattle.text_numbers.proofs.WordLaws.{digit-some, digit-none, hex-short, hex-long, hex-no, hex-more, hex-end}
use Rattle.text_numbers.proofs.hexadecimal.Goals as goal

-- i digits make a number below 2^(4 i), and one more fits
small : (i v : ℕ) → i < 16 → v < 2 ^ (4 * i) → v < 2 ^ 60
small i v h b = lt_of_lt_of_le b (pow_mono {i = 4 * i} {j = 60} (omega arith))

grows : (i v d : ℕ) → v < 2 ^ (4 * i) → d < 16 → 16 * v + d < 2 ^ (4 * (i + 1))
grows i v d b h =
    let e : 4 * i + 4 ≡ 4 * (i + 1) = omega arith in
    let p : 2 ^ (4 * i + 4) ≡ 2 ^ (4 * i) * 16 = pow-add 2 (4 * i) 4 in
    subst (λ (k : ℕ). 16 * v + d < 2 ^ k) e (omega arith)

pub returns-then-word-ne16 : goal.returns-then-word-ne16
returns-then-word-ne16 c = sym (hex-short _ c.if-word-ne16.true)

pub loop-b-init : goal.loop-b-init
loop-b-init c = (omega arith, hex-long _ c.if-word-ne16.false)

pub overflow_mul-v : goal.overflow_mul-v
overflow_mul-v c =
    let s = small c.loop-b.b-index c.loop-b.v (omega arith) c.loop-b.invariant.0 in omega arith

pub returns-in_err-to_digit : goal.returns-in_err-to_digit
returns-in_err-to_digit c =
    let l = c.loop-b in
    c.from_residual.ensures
    ∙ sym (l.invariant.1 ∙ hex-no _ l.b-index l.v c.loop-b-test.true (digit-none _ _ 16 c.from.ensures (omega arith) c.in_err-to_digit.ensures.value))

pub overflow_add-v : goal.overflow_add-v
overflow_add-v c =
    let s = small c.loop-b.b-index c.loop-b.v (omega arith) c.loop-b.invariant.0 in
    let d = c.in_ok-to_digit.ensures.value in
    omega arith

pub loop-b-preserved : goal.loop-b-preserved
loop-b-preserved c =
    let l = c.loop-b in
    let d = c.in_ok-to_digit.ensures.value in
    let e = digit-some _ _ c.in_ok-to_digit.field-0 16 c.from.ensures (omega arith) d in
    (grows l.b-index l.v c.from-in-loop-b.result l.invariant.0 (omega arith), l.invariant.1 ∙ hex-more _ l.b-index l.v c.loop-b-test.true (omega arith) ∙ cc)

pub returns : goal.returns
returns c =
    let l = c.loop-b in
    sym (l.invariant.1 ∙ hex-end _ l.b-index l.v (omega arith) c.loop-b-test.false)
