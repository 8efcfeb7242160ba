-- Laws of the whole program: slices of a wrong length, and what reading, clearing and printing come to.
use Rattle.prelude.proofs.Prelude.{◌⊎◌, inl, inr, ◌≡◌, ap, ◌∙◌, List, ◌++◌, ℕ, ◌+◌, ◌-◌, ◌≤◌, arith, length, drop, replicate, Float, zero-add, le_trans, length-append, eq-eqb, ne_eqb}
use Rattle.std.specs.Prelude.{Ok, Err}
use Rattle.complex.specs.{zeros}
use Rattle.refusals.specs.Refusals.{answered}
use Rattle.lists.proofs.Fronts.{drop-replicate}
use Rattle.std.specs.Prelude.{Ok, Err}
use Rattle.refusals.specs.declared.Refusal.TheVariants.{WrongLength}
use Rattle.reduce_text.specs.declared.read.Reading.{Reading}
use Rattle.text_numbers.specs.Bytes.{Bytes}
use Rattle.text_numbers.specs.Inner.Writing.{written}
use Rattle.reduce_text.specs.Reading.{run_of}
use Rattle.reduce_text.specs.Inner.Steps.{RanIn}
use Rattle.reduce_text.specs.Printing.{Whole, text_of, text}
use Rattle.reduce_text.specs.Reduce.{printed, matrix_length, output_length, reduce_refusal, AfterReduce, after_reduce}
use Rattle.reduce_text.proofs.Fit.{most-limit, run-fit}
use Rattle.reduce_text.proofs.Room.{text-front, text-room}

abbrev untouched : Bytes → List Float → AfterReduce
untouched out ys = record { answer = Err WrongLength; output = out; matrix = ys }

module _ (input out : Bytes) (ys : List Float) where
  pub after-wrong : (length out ≡ output_length → ⊥) ⊎ ((length out ≡ output_length) × (length ys ≡ matrix_length → ⊥)) → after_reduce input out ys ≡ untouched out ys
  unfolding after_reduce reduce_refusal answered
  after-wrong (inl n) = simp (ne_eqb _ _ n)
  after-wrong (inr w) = simp (eq-eqb _ _ w.0, ne_eqb _ _ w.1)

  pub after_both : length out ≡ output_length → length ys ≡ matrix_length
      → after_reduce input out ys
      ≡ record {
        answer = Ok (length (printed input));
        output = printed input ++ replicate (output_length - length (printed input)) 0;
        matrix = zeros matrix_length;
      }
  unfolding after_reduce reduce_refusal answered
  after_both e f = simp (eq-eqb _ _ e, eq-eqb _ _ f)

-- ---- what was read, in the slice that it was read into

module _ (input : Bytes) (before left : List Float) (o : Reading) (w : RanIn before (run_of input) o left) where
  pub whole_is : Whole o.rec left
  whole_is =
      let R = run_of input in
      let f = (run-fit input).fit in
      let e : length left ≡ length R.numbers + length (drop (length R.numbers) before) =
      ap length w.leaves ∙ length-append R.numbers (drop (length R.numbers) before) in
      rw w.says (le_trans f.size most-limit, f.is-sound, omega (arith, f.entries, e))

  pub text-is : text_of o.end o.rec left ≡ printed input
  unfolding printed text
  text-is =
      let R = run_of input in
      ap (λ (q : Reading). text_of q.end q.rec left) w.says
      ∙ ap (text_of R.reading.end R.reading.rec) w.leaves
      ∙ text-front R.reading.end R.reading.rec R.numbers (drop (length R.numbers) before) (run-fit input).fit.entries

pub printed-room : (input : Bytes) → length (printed input) ≤ output_length
unfolding printed
printed-room input = text-room (run_of input) (run-fit input)

-- a text at the front of a cleared output
pub on-cleared : (n : ℕ) (t : Bytes) → written (replicate n 0) 0 t ≡ t ++ replicate (n - length t) 0
unfolding written
on-cleared n t = ap (λ (k : ℕ). t ++ drop k (replicate n 0)) (zero-add (length t)) ∙ ap (λ (l : Bytes). t ++ l) (drop-replicate n (length t) 0)
