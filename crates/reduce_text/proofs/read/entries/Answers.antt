-- `reduce_text::read::entries` meets its contract: the run from the first entry line is the run from the line reached, with the numbers read so far.
use Rattle.prelude.proofs.Prelude.{◌≡◌, refl, sym, ap, ◌∙◌, List, ℕ, suc, ◌+◌, ◌-◌, ◌*◌, ◌≤◌, ◌<◌, arith, length, take, drop, Float, sub-zero, zero-add, length-take-le}
use Rattle.std.specs.Prelude.{Some, None}
use Rattle.complex.specs.{Complex, put}
use Rattle.kron_reduction.specs.Reducer.{reducer_input_of, made}
use Rattle.reduce_text.specs.Lines.{line_at, entry_of}
use Rattle.reduce_text.specs.Reading.{of_word, entries}
use Rattle.reduce_text.specs.Inner.Steps.{behind}
use Rattle.reduce_text.proofs.ReadLaws.{few-fits, square, square-fits, told-none, entries-bad, entries-more, entry-fits, take_put, drop-put, drop_more, at_front, entries_none}
use Rattle.reduce_text.proofs.read.entries.Goals as goal

pub overflow_add-first : goal.overflow_add-first
overflow_add-first c = omega (arith, few-fits _ c.requires.0)

pub overflow_mul-i-end : goal.overflow_mul-i-end
overflow_mul-i-end c = omega (arith, square-fits _ c.requires.0)

pub loop-i-init : goal.loop-i-init
loop-i-init c = (c.requires.2, refl, λ go ns. rw (sub-zero, zero-add))

pub returns-in_err-re : goal.returns-in_err-re
returns-in_err-re c =
    let n = c.args.n in let i = c.loop-i.i in let ys = take (2 * i) c.loop-i.matrix in
    let e : n * n - i ≡ suc (n * n - i - 1) = omega arith in
    let k : 2 * i ≤ length c.loop-i.matrix = omega (arith, c.requires.1, square n c.requires.0) in
    let none : entry_of (line_at c.args.input.now c.loop-i.at) ≡ None = let z = c.in_err-re.ensures.ok_part in cc in
    rw (told-none c.from_residual.result c.entry_line.result _ _ c.in_err-re.ensures.ok_part c.in_err-re.ensures.value c.from_residual.ensures.1)
    (record {
      ys = ys;
      leaves = at_front (2 * i) c.loop-i.matrix c.args.matrix.now k c.loop-i.invariant.1;
      full = tt;
      goes = λ go ns.
          c.loop-i.invariant.2 go ns
          ∙ ap (λ (j : ℕ). entries go n ns j (i + (n + 2)) ys (behind c.args.input.now c.loop-i.at)) e
          ∙ entries-bad go ns c.args.input.now c.loop-i.at n (n * n - i - 1) (i + (n + 2)) ys none;
    })

pub put-requires : goal.put-requires
put-requires c = omega (arith, c.requires.1, square c.args.n c.requires.0)

pub overflow_add-at-in-loop-i : goal.overflow_add-at-in-loop-i
overflow_add-at-in-loop-i c =
    let z = c.in_ok-re.ensures.ok_part in
    omega (arith, entry-fits c.args.input.now c.loop-i.at c.in_ok-re.re c.in_ok-re.im cc, c.well_formed.0.1)

pub loop-i-preserved : goal.loop-i-preserved
loop-i-preserved c =
    let n = c.args.n in let i = c.loop-i.i in let s = c.args.input.now in let at = c.loop-i.at in let M = c.loop-i.matrix in
    let e : n * n - i ≡ suc (n * n - (i + 1)) = omega arith in
    let k : 2 * i + 1 < length M = omega (arith, c.requires.1, square n c.requires.0) in
    let z : Complex = record { re = of_word c.in_ok-re.re; im = of_word c.in_ok-re.im } in
    let f : entry_of (line_at s at) ≡ Some (c.in_ok-re.re, c.in_ok-re.im) = let z = c.in_ok-re.ensures.ok_part in cc in
    let m : c.put.new.s ≡ put M i z = c.put.ensures ∙ rw (c.of_word.ensures, c.of_word-in-loop-i.ensures) in (
      entry-fits s at c.in_ok-re.re c.in_ok-re.im f,
      ap (drop (2 * (i + 1))) m ∙ drop-put M i z k ∙ drop_more (2 * i) (2 * (i + 1)) M c.args.matrix.now (omega arith) c.loop-i.invariant.1,
      λ go ns.
          c.loop-i.invariant.2 go ns
          ∙ ap (λ (j : ℕ). entries go n ns j (i + (n + 2)) (take (2 * i) M) (behind s at)) e
          ∙ entries-more s at c.in_ok-re.re c.in_ok-re.im f go ns n (n * n - (i + 1)) (i + (n + 2)) (take (2 * i) M)
          ∙ ap (λ (ys : List Float). entries go n ns (n * n - (i + 1)) (i + (n + 2) + 1) ys (behind s (at + 34))) (sym (take_put M i z k) ∙ sym (ap (take (2 * (i + 1))) m))
          ∙ ap (λ (j : ℕ). entries go n ns (n * n - (i + 1)) j (take (2 * (i + 1)) c.put.new.s) (behind s (at + 34))) (let g : i + (n + 2) + 1 ≡ i + 1 + (n + 2) = omega arith in g),
    )

pub returns : goal.returns
returns c =
    let n = c.args.n in let ys = take (2 * c.loop-i.i) c.loop-i.matrix in
    let i : c.loop-i.i ≡ n * n = omega arith in
    let k : 2 * c.loop-i.i ≤ length c.loop-i.matrix = omega (arith, c.requires.1, square n c.requires.0) in
    record {
      ys = ys;
      leaves = at_front (2 * c.loop-i.i) c.loop-i.matrix c.args.matrix.now k c.loop-i.invariant.1;
      full = length-take-le (2 * c.loop-i.i) c.loop-i.matrix k ∙ ap (λ (j : ℕ). 2 * j) i;
      goes = λ go ns.
          c.loop-i.invariant.2 go ns
          ∙ ap (λ (j : ℕ). entries go n ns j (c.loop-i.i + (n + 2)) ys (behind c.args.input.now c.loop-i.at)) (let z : n * n - c.loop-i.i ≡ 0 = omega arith in z)
          ∙ entries_none go ns n (c.loop-i.i + (n + 2)) ys (behind c.args.input.now c.loop-i.at)
          ∙ ap (λ (j : ℕ). go (j + (n + 2)) (made (reducer_input_of n ys ns)) ys (behind c.args.input.now c.loop-i.at)) i;
    }
