-- `text_numbers::print::places` meets its contract: the digits counted, and those of the rest, make those of the number.
use Rattle.prelude.proofs.Prelude.{◌≡◌, ap, ◌∙◌, ℕ, suc, ◌+◌, ◌-◌, ◌<◌, arith, ◌/◌}
use Rattle.text_numbers.specs.Words.{places}
use Rattle.text_numbers.proofs.WordLaws.{places-stop, places-more, places-last}
use Rattle.text_numbers.proofs.print.places.Goals as goal

-- one step less is counted
turn : (k rest : ℕ) → k < 20 → places (21 - k) rest ≡ places (suc (20 - k)) rest
turn k rest h = ap (λ (m : ℕ). places m rest) (omega arith)

pub returns-then-rest-lt10 : goal.returns-then-rest-lt10
returns-then-rest-lt10 c =
    let l = c.loop-k in
    let e : places (21 - l.k) l.rest ≡ 1 = turn l.k l.rest c.loop-k-test.true ∙ places-stop (20 - l.k) l.rest c.if-rest-lt10.true in
    (omega arith, omega arith)

pub loop-k-preserved : goal.loop-k-preserved
loop-k-preserved c =
    let l = c.loop-k in
    let e : places (21 - l.k) l.rest ≡ suc (places (20 - l.k) (l.rest / 10)) =
    turn l.k l.rest c.loop-k-test.true ∙ places-more (20 - l.k) l.rest c.if-rest-lt10.false in
    let f : places (21 - (l.k + 1)) (l.rest / 10) ≡ places (20 - l.k) (l.rest / 10) = ap (λ (m : ℕ). places m (l.rest / 10)) (omega arith) in
    omega arith

pub returns : goal.returns
returns c =
    let l = c.loop-k in
    let e : places (21 - l.k) l.rest ≡ 1 = ap (λ (m : ℕ). places m l.rest) (omega arith) ∙ places-last l.rest in
    (omega arith, omega arith)
