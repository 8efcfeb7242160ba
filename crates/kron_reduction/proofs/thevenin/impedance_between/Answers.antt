-- `kron_reduction::thevenin::impedance_between` meets its contract: the front of y is the matrix, and the work slice is cleared.
use Rattle.prelude.proofs.Prelude.{◌≡◌, ap, ◌∙◌, List, ℕ, ◌+◌, ◌-◌, ◌*◌, ◌≤◌, ◌<◌, arith, rules, length, take, nan, ap₂, sub-zero, zero-add, length-take-le}
use Rattle.complex.specs.{Complex, Matrix, entry_at, zeros}
use Rattle.lists.proofs.Parts.{back, length_back}
use Rattle.complex.proofs.Matrices.{entry-within}
use Rattle.refusals.specs.declared.Allowance.TheVariants.{Unlimited}
use Rattle.refusals.specs.Work.{Step, work_refusal}
use Rattle.solver.specs.Solving.{inverse}
use Rattle.refusals.specs.Refusals.{answered}
use Rattle.kron_reduction.proofs.Showing.{entry_at-take}
use Rattle.kron_reduction.proofs.Across.{inverse-same, impedance-steps-same, across-same}
use Rattle.kron_reduction.proofs.thevenin.impedance_between.Goals as goal

pub returns : goal.returns
returns c =
    let hp : c.args.p < c.args.front.now.n = c.requires.0 in
    let hq : c.args.q < c.args.front.now.n = c.requires.1 in
    let part : Matrix = entry_at c.args.front.now.n (take (2 * (c.args.front.now.n * c.args.front.now.n) - 0) c.args.front.now.y.now) in
    let whole : Matrix = entry_at c.args.front.now.n c.args.front.now.y.now in
    let same : (i j : ℕ) → i < c.args.front.now.n → j < c.args.front.now.n → part i j ≡ whole i j =
    λ (i j : ℕ) (h : i < c.args.front.now.n) (k : j < c.args.front.now.n).
    ap (λ (w : ℕ). entry_at c.args.front.now.n (take w c.args.front.now.y.now) i j) (sub-zero (2 * (c.args.front.now.n * c.args.front.now.n))) ∙ entry_at-take c.args.front.now.n (c.args.front.now.n * c.args.front.now.n) c.args.front.now.y.now i j (entry-within c.args.front.now.n c.args.front.now.n i j h k) in
    let e = 2 * (c.args.front.now.n * (c.args.front.now.n + c.args.front.now.n)) in
    let z = c.inverted_across-answer.new.work in
    let fits : e - 0 ≤ length c.args.work.now = rw sub-zero c.requires.2 in
    let long : length (back 0 (e - 0) c.args.work.now z) ≡ length c.args.work.now = length_back 0 (e - 0) c.args.work.now z nan (rw zero-add fits) (c.inverted_across-answer.auto.work ∙ length-take-le (e - 0) c.args.work.now fits) in (
      c.inverted_across-answer.ensures
          ∙ ap₂ (λ (es : List Step) (z : Complex). answered z (work_refusal Unlimited es)) (impedance-steps-same c.args.front.now.n part whole same c.args.p c.args.q hp hq)
          (across-same (inverse c.args.front.now.n part) (inverse c.args.front.now.n whole) c.args.p c.args.q (inverse-same c.args.front.now.n part whole same c.args.p c.args.p hp) (inverse-same c.args.front.now.n part whole same c.args.q c.args.q hq) (inverse-same c.args.front.now.n part whole same c.args.p c.args.q hp)),
      c.clear.ensures ∙ ap zeros long,
    )

pub inverted_across-answer-requires : goal.inverted_across-answer-requires
inverted_across-answer-requires c = (search rules, search rules, rw (sub-zero (2 * (c.args.front.now.n * c.args.front.now.n))) c.requires.3)

pub overflow_add-e : goal.overflow_add-e
overflow_add-e c = omega (arith, c.requires.0)
