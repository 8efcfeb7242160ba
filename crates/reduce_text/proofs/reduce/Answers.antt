-- `reduce_text::reduce` meets its contract: read, cleared, printed, cleared.
use Rattle.prelude.proofs.Prelude.{sym, ap, ◌∙◌, ℕ, arith, length, replicate, zero-add}
use Rattle.complex.specs.{zeros}
use Rattle.std.specs.Prelude.{Ok}
use Rattle.text_numbers.specs.Bytes.{Bytes}
use Rattle.text_numbers.specs.Inner.Writing.{written}
use Rattle.reduce_text.specs.Reading.{most}
use Rattle.reduce_text.specs.Reduce.{printed, matrix_length, output_length, AfterReduce}
use Rattle.reduce_text.proofs.ReduceLaws.{after-wrong, after_both, whole_is, text-is, printed-room, on-cleared}
use Rattle.reduce_text.proofs.reduce.Goals as goal

pub returns-then-output-ne-OUTPUT : goal.returns-then-output-ne-OUTPUT
unfolding most matrix_length output_length
returns-then-output-ne-OUTPUT c =
    let e = after-wrong c.args.input.now c.args.output.now c.args.matrix.now c.then-output-ne-OUTPUT.either in
    (sym (ap (λ (a : AfterReduce). a.answer) e), sym (ap (λ (a : AfterReduce). a.output) e), sym (ap (λ (a : AfterReduce). a.matrix) e))

pub read-reading-requires : goal.read-reading-requires
unfolding most matrix_length output_length
read-reading-requires c = omega (arith, c.if-matrix-ne-MATRIX.false)

pub print-n-requires : goal.print-n-requires
unfolding most matrix_length output_length
print-n-requires c = (
  whole_is c.args.input.now c.args.matrix.now c.read-reading.new.matrix c.read-reading.result c.read-reading.ensures,
  rw (text-is c.args.input.now c.args.matrix.now c.read-reading.new.matrix c.read-reading.result c.read-reading.ensures)
      (omega (arith, printed-room c.args.input.now, c.fill.auto.self, c.if-output-ne-OUTPUT.false)),
)

pub returns : goal.returns
unfolding most matrix_length output_length
returns c =
    let t = text-is c.args.input.now c.args.matrix.now c.read-reading.new.matrix c.read-reading.result c.read-reading.ensures in
    let e = after_both c.args.input.now c.args.output.now c.args.matrix.now c.if-output-ne-OUTPUT.false c.if-matrix-ne-MATRIX.false in (
      ap Ok (c.print-n.ensures.here ∙ zero-add _ ∙ ap length t) ∙ sym (ap (λ (a : AfterReduce). a.answer) e),
      c.print-n.ensures.there
          ∙ ap (written c.fill.new.self 0) t
          ∙ ap (λ (o : Bytes). written o 0 (printed c.args.input.now)) (c.fill.ensures.after (λ _ e. e) ∙ ap (λ (k : ℕ). replicate k 0) c.if-output-ne-OUTPUT.false)
          ∙ on-cleared output_length (printed c.args.input.now)
          ∙ sym (ap (λ (a : AfterReduce). a.output) e),
      c.clear.ensures ∙ ap zeros (c.read-reading.auto.matrix ∙ c.if-matrix-ne-MATRIX.false) ∙ sym (ap (λ (a : AfterReduce). a.matrix) e),
    )
