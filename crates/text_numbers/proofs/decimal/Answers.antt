-- `text_numbers::decimal` meets its contract: what is read so far, and the digits left, make the number of the whole word.
use Rattle.prelude.proofs.Prelude.{sym, ◌∙◌, arith}
use Rattle.text_numbers.proofs.WordLaws.{digit-some, digit-none, decimal-spare, decimal-plain, decimal-no, decimal-over, decimal-more, decimal-end}
use Rattle.text_numbers.proofs.decimal.Goals as goal

pub returns-then-spare : goal.returns-then-spare
returns-then-spare c = sym (decimal-spare _ (sym c.spare.ensures ∙ c.if-spare.true))

pub loop-b-init : goal.loop-b-init
loop-b-init c = (omega arith, decimal-plain _ (sym c.spare.ensures ∙ c.if-spare.false))

pub returns-in_err-to_digit : goal.returns-in_err-to_digit
returns-in_err-to_digit c =
    let l = c.loop-b in
    c.from_residual.ensures
    ∙ sym (l.invariant.1 ∙ decimal-no _ l.b-index l.v c.loop-b-test.true (digit-none _ _ 10 c.from.ensures (omega arith) c.in_err-to_digit.ensures.value))

pub returns-then-v-ge-LIMIT : goal.returns-then-v-ge-LIMIT
returns-then-v-ge-LIMIT c =
    let l = c.loop-b in
    let d = c.in_ok-to_digit.ensures.value in
    let e = digit-some _ _ c.in_ok-to_digit.field-0 10 c.from.ensures (omega arith) d in
    sym (l.invariant.1 ∙ decimal-over _ l.b-index l.v c.loop-b-test.true (omega arith) (omega arith))

pub loop-b-preserved : goal.loop-b-preserved
loop-b-preserved c =
    let l = c.loop-b in
    let d = c.in_ok-to_digit.ensures.value in
    let e = digit-some _ _ c.in_ok-to_digit.field-0 10 c.from.ensures (omega arith) d in
    (omega arith, l.invariant.1 ∙ decimal-more _ l.b-index l.v c.loop-b-test.true (omega arith) (omega arith) ∙ cc)

pub returns : goal.returns
returns c =
    let l = c.loop-b in
    sym (l.invariant.1 ∙ decimal-end _ l.b-index l.v (omega arith) c.loop-b-test.false)
