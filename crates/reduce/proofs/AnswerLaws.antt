-- What `reduce_text::reduce` answers on slices of the right lengths: the printed text, at the output's front.
use Rattle.prelude.proofs.Prelude.{◌≡◌, sym, ap, ◌∙◌, List, ◌++◌, ℕ, ◌-◌, ◌≤◌, arith, length, take, replicate, Float, length-append, take-append_seam, length-take-le}
use Rattle.std.specs.Result.{result_unwrap_or}
use Rattle.reduce_text.specs.Reduce.{output_length, matrix_length, printed, AfterReduce, after_reduce}
use Rattle.reduce_text.proofs.ReduceLaws.{after_both}
use Rattle.reduce.specs.Inner.Moves.{Front}

module _ (input out : List ℕ) (ys : List Float) (o : output_length ≡ length out) (m : matrix_length ≡ length ys) where
  -- the zeros behind the text
  abbrev zeros : List ℕ
  zeros = replicate (output_length - length (printed input)) 0

  -- the answer is how many bytes the text has, and they stand there
  pub answer-front : (left : List ℕ) (n : ℕ) → n ≡ result_unwrap_or (after_reduce input out ys).answer 0 → left ≡ (after_reduce input out ys).output → Front n left (printed input)
  answer-front left n e l =
      let k : n ≡ length (printed input) = e ∙ ap (λ (r : AfterReduce). result_unwrap_or r.answer 0) (after_both input out ys (sym o) (sym m)) in
      let t : left ≡ printed input ++ zeros = l ∙ ap (λ (r : AfterReduce). r.output) (after_both input out ys (sym o) (sym m)) in
      let h : n ≤ length left = omega (arith, ap length t, length-append (printed input) zeros) in
      (h, sym (length-take-le n left h), ap (λ (j : ℕ). take j left) k ∙ ap (take (length (printed input))) t ∙ take-append_seam (printed input) zeros)
