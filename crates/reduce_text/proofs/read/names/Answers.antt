-- `reduce_text::read::names` meets its contract: the run from the first number line is the run from the line reached, with the numbers read so far.
use Rattle.prelude.proofs.Prelude.{◌≡◌, refl, sym, ap, ◌∙◌, List, [], ◌∷◌, ◌++◌, ℕ, suc, ◌+◌, ◌-◌, ◌*◌, add-one, arith, length, take, sub-zero, set, take_all}
use Rattle.std.specs.Prelude.{Some, None}
use lib.Seq.{take-suc-set}
use Rattle.text_numbers.proofs.WordSizes.{decimal-below}
use Rattle.lists.proofs.Chains.{mem-is}
use Rattle.reduce_text.specs.Lines.{line_at, number_of}
use Rattle.reduce_text.specs.Reading.{entries, named}
use Rattle.reduce_text.specs.Inner.Steps.{behind}
use Rattle.reduce_text.proofs.ReadLaws.{named-bad, named-twice, named_more, named_none, told-none, no-number, line-ends, next_is}
use Rattle.reduce_text.proofs.read.names.Goals as goal

pub loop-i-init : goal.loop-i-init
loop-i-init c = (c.requires.1, λ go. rw sub-zero)

pub returns-in_err-bus : goal.returns-in_err-bus
returns-in_err-bus c =
    let n = length c.args.numbers.now in
    let e : n - c.loop-i.i ≡ suc (n - c.loop-i.i - 1) = omega arith in
    let none : number_of (line_at c.args.input.now c.loop-i.at) ≡ None = let z = c.in_err-bus.ensures.ok_part in cc in
    rw (told-none c.from_residual.result c.decimal.result _ _ c.in_err-bus.ensures.ok_part c.in_err-bus.ensures.value c.from_residual.ensures.1)
    (record {
      within = tt;
      goes = λ go.
          c.loop-i.invariant.1 go
          ∙ ap (λ (j : ℕ). named go n j (c.loop-i.i + 2) (take c.loop-i.i c.loop-i.numbers) (behind c.args.input.now c.loop-i.at)) e
          ∙ named-bad go c.args.input.now c.loop-i.at n (n - c.loop-i.i - 1) (c.loop-i.i + 2) (take c.loop-i.i c.loop-i.numbers) none;
    })

pub overflow_cast-number : goal.overflow_cast-number
overflow_cast-number c =
    let z = c.in_ok-bus.ensures.ok_part in
    omega (arith, decimal-below (line_at c.args.input.now c.loop-i.at) c.in_ok-bus.bus cc)

pub returns-then-contains : goal.returns-then-contains
returns-then-contains c =
    let n = length c.args.numbers.now in
    let z = c.in_ok-bus.ensures.ok_part in
    let f : number_of (line_at c.args.input.now c.loop-i.at) ≡ Some c.in_ok-bus.bus = cc in
    let e : n - c.loop-i.i ≡ suc (n - c.loop-i.i - 1) = omega arith in
    record {
      within = tt;
      goes = λ go.
          c.loop-i.invariant.1 go
          ∙ ap (λ (j : ℕ). named go n j (c.loop-i.i + 2) (take c.loop-i.i c.loop-i.numbers) (behind c.args.input.now c.loop-i.at)) e
          ∙ named-twice c.args.input.now c.loop-i.at c.in_ok-bus.bus f go n (n - c.loop-i.i - 1) (c.loop-i.i + 2) (take c.loop-i.i c.loop-i.numbers) (sym (mem-is c.in_ok-bus.bus (take c.loop-i.i c.loop-i.numbers)) ∙ sym c.if-contains.ensures.value);
    }

pub overflow_add-at-in-loop-i : goal.overflow_add-at-in-loop-i
overflow_add-at-in-loop-i c =
    let z = c.in_ok-bus.ensures.ok_part in
    let f : number_of (line_at c.args.input.now c.loop-i.at) ≡ Some c.in_ok-bus.bus = cc in
    let h = line-ends number_of no-number c.args.input.now c.loop-i.at c.in_ok-bus.bus f in
    rw c.line_at-line.ensures (rw (next_is c.args.input.now c.loop-i.at) (omega (arith, h, c.well_formed.0.0)))

pub loop-i-preserved : goal.loop-i-preserved
loop-i-preserved c =
    let s = c.args.input.now in
    let n = length c.args.numbers.now in
    let i = c.loop-i.i in let b = c.in_ok-bus.bus in
    let z = c.in_ok-bus.ensures.ok_part in
    let f : number_of (line_at s c.loop-i.at) ≡ Some b = cc in
    let e : n - i ≡ suc (n - (i + 1)) = omega arith in
    let ms : take (i + 1) (set c.loop-i.numbers i b) ≡ take i c.loop-i.numbers ++ (b ∷ []) = rw add-one (take-suc-set c.loop-i.numbers i b (omega arith)) in
    rw c.line_at-line.ensures
    (rw (next_is s c.loop-i.at) (
      line-ends number_of no-number s c.loop-i.at b f,
      λ go.
          c.loop-i.invariant.1 go
          ∙ ap (λ (j : ℕ). named go n j (i + 2) (take i c.loop-i.numbers) (behind s c.loop-i.at)) e
          ∙ named_more s c.loop-i.at b f go n (n - (i + 1)) (i + 2) (take i c.loop-i.numbers) (sym (mem-is c.in_ok-bus.bus (take c.loop-i.i c.loop-i.numbers)) ∙ sym c.if-contains.ensures.value)
          ∙ rw (ms, let g : i + 1 + 2 ≡ i + 2 + 1 = omega arith in g) refl,
    ))

pub returns : goal.returns
returns c =
    let n = length c.args.numbers.now in
    let i : c.loop-i.i ≡ n = omega arith in
    record {
      within = c.loop-i.invariant.0;
      goes = λ go.
          c.loop-i.invariant.1 go
          ∙ ap (λ (j : ℕ). named go n j (c.loop-i.i + 2) (take c.loop-i.i c.loop-i.numbers) (behind c.args.input.now c.loop-i.at)) (let z : n - c.loop-i.i ≡ 0 = omega arith in z)
          ∙ named_none go n (c.loop-i.i + 2) (take c.loop-i.i c.loop-i.numbers) (behind c.args.input.now c.loop-i.at)
          ∙ ap (λ (ns : List ℕ). entries go n ns (n * n) (c.loop-i.i + 2) [] (behind c.args.input.now c.loop-i.at)) (take_all c.loop-i.i c.loop-i.numbers (omega arith))
          ∙ ap (λ (j : ℕ). entries go n c.loop-i.numbers (n * n) (j + 2) [] (behind c.args.input.now c.loop-i.at)) i;
    }
