-- `reduce_text::read::reducer` meets its contract: the numbers, the entries, and the reducer made of them.
use Rattle.prelude.proofs.Prelude.{◌≡◌, sym, ap, ◌∙◌, subst, List, ℕ, ◌*◌, ◌≤◌, length, take, drop, Float, length-take-le}
use Rattle.std.specs.Prelude.{Result, Ok, Err}
use Rattle.text_numbers.specs.Bytes.{Bytes}
use Rattle.kron_reduction.specs.declared.KronReducer.{KronReducer}
use Rattle.kron_reduction.specs.Reducer.{reducer_input_of, made as made_of}
use Rattle.reduce_text.specs.declared.read.Trouble.{Trouble}
use Rattle.reduce_text.specs.Reading.{most}
use Rattle.reduce_text.specs.Inner.Steps.{behind, place_behind, Numbered}
use Rattle.reduce_text.proofs.ReadLaws.{err-is, unbegun, front-is'}
use Rattle.reduce_text.proofs.read.reducer.Goals as goal

-- the room for n numbers
numbered : (d : Bytes) (from n : ℕ) (o : Result ℕ Trouble) (xs ns : List ℕ) → n ≤ length xs → Numbered d from (length (take n xs)) o ns → Numbered d from n o ns
numbered d from n o xs ns h = subst (λ (j : ℕ). Numbered d from j o ns) (length-take-le n xs h)

pub slice_bounds-space-end : goal.slice_bounds-space-end
unfolding most
slice_bounds-space-end c = c.requires.0

pub slice_bounds-numbers-end : goal.slice_bounds-numbers-end
unfolding most
slice_bounds-numbers-end c = sym (length-take-le c.args.n _ c.requires.0)

pub returns-in_err-named : goal.returns-in_err-named
unfolding most
returns-in_err-named c =
    let Q = numbered c.args.input.now c.args.from c.args.n (Err c.in_err-named.field-0.0) _ c.names.new.numbers c.requires.0 c.in_err-named.ensures in
    rw (err-is c.from_residual.result _ c.from_residual.ensures.1) (unbegun c.in_err-named.field-0.0 Q.goes)

pub returns-in_err-at : goal.returns-in_err-at
unfolding most
returns-in_err-at c =
    let Q = numbered c.args.input.now c.args.from c.args.n (Ok c.in_ok-named.named) _ c.names.new.numbers c.requires.0 c.in_ok-named.ensures in
    let F = c.in_err-at.ensures in
    rw (err-is c.from_residual-in_err-at.result _ c.from_residual-in_err-at.ensures.1)
    (record {
      ys = F.ys;
      leaves = F.leaves;
      fits = tt;
      goes = λ go. Q.goes go ∙ F.goes go c.names.new.numbers;
    })

pub returns : goal.returns
unfolding most
returns c =
    let n = c.args.n in
    let ns = c.names.new.numbers in
    let Q = numbered c.args.input.now c.args.from n (Ok c.in_ok-named.named) _ ns c.requires.0 c.in_ok-named.ensures in
    let F = c.in_ok-at.ensures in
    let ys = F.ys in
    let m = 2 * (n * n) in
    let front : take m c.entries.new.matrix ≡ ys = ap (take m) F.leaves ∙ front-is' ys (drop (length ys) c.args.matrix.now) m F.full in
    let made : made_of (reducer_input_of n ys ns) ≡ c.unwrap_or.result =
    ap (λ (zs : List Float). made_of (reducer_input_of n zs ns)) (sym front)
    ∙ sym c.new-made.ensures.2
    ∙ cc in
    record {
      ys = ys;
      leaves = F.leaves;
      fits = (c.requires.0, F.full);
      goes = λ go.
          Q.goes go
          ∙ F.goes go ns
          ∙ ap (λ (q : KronReducer). go (place_behind n) q ys (behind c.args.input.now c.in_ok-at.at)) made;
    }
