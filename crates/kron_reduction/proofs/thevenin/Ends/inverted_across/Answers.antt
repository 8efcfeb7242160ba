-- `kron_reduction::thevenin::Ends::inverted_across` meets its contract: the columns beside the matrix are its inverse's.
use Rattle.prelude.proofs.Prelude.{◌≡◌, sym, ap, ap₂, ◌∙◌, List, ℕ, ◌+◌, ◌<◌, arith, rules, Float}
use Rattle.std.proofs.Common.{Option, ok_or}
use Rattle.std.proofs.lemmas.Result.{err_from_is_err_and}
use Rattle.complex.specs.{Complex, Matrix, entry_at}
use Rattle.complex.specs.Leaves.{pair}
use Rattle.complex.proofs.FiniteEntries.{slice-entries}
use Rattle.refusals.proofs.Refusing.{products}
use Rattle.refusals.specs.declared.Refusal.TheVariants.{ComputedNotFinite}
use Rattle.refusals.specs.declared.Allowance.TheVariants.{Unlimited}
use Rattle.refusals.specs.Refusals.{number_of}
use Rattle.refusals.specs.Work.{work_refusal}
use Rattle.solver.specs.Solving.{inverse, unit_column}
use Rattle.solver.specs.Steps.{steps_of_inverse}
use Rattle.solver.specs.Inner.Work.{right_sides}
use Rattle.solver.proofs.Allowances.{inverse-refused}
use Rattle.solver.proofs.Solutions.{ended_is, solution-is, filled-finite, identity-finite}
use Rattle.kron_reduction.proofs.Across.{across-same, numbers-same, inverse-met, inverse-found}
use Rattle.kron_reduction.proofs.thevenin.Ends.inverted_across.Goals.{After-eliminate, After-fill_identity, Start}
use Rattle.kron_reduction.proofs.thevenin.Ends.inverted_across.Goals as goal

pub eliminate-requires : goal.eliminate-requires
eliminate-requires c = (
  omega arith,
  omega arith,
  search rules,
  filled-finite c.args.self.n c.args.self.n (entry_at c.args.self.n c.args.mat.now) (λ (r k : ℕ). unit_column k r) _ c.fill_identity.ensures (search rules)
      (slice-entries c.args.self.n c.args.self.n c.args.mat.now c.requires.0 c.requires.2) (identity-finite c.args.self.n c.args.self.n),
)

-- the elimination, and what it began with
module _ (run : After-eliminate) where
  abbrev filled : After-fill_identity
  filled = (goal.at.After-eliminate run).After-fill_identity

  abbrev start : Start
  start = (goal.at.After-fill_identity filled).Start

  abbrev n : ℕ
  n = start.args.self.n

  abbrev p : ℕ
  p = start.args.self.p

  abbrev q : ℕ
  q = start.args.self.q

  abbrev A : Matrix
  A = entry_at n start.args.mat.now

  -- what the slice holds beside the matrix
  abbrev Z : Matrix
  Z = right_sides n (entry_at (n + n) run.eliminate.new.work)

  told : number_of run.eliminate.result ≡ work_refusal Unlimited (steps_of_inverse n A)
  unfolding steps_of_inverse
  told = inverse-refused n A run.eliminate.result (ended_is n n A (λ (r k : ℕ). unit_column k r) _ filled.fill_identity.ensures _ _ run.eliminate.new.work run.eliminate.ensures)

pub returns-in_err-eliminate : goal.returns-in_err-eliminate
returns-in_err-eliminate c =
    let run = (goal.at.returns-in_err-eliminate c).After-eliminate in
    let f = err_from_is_err_and c.from_residual.result c.from_residual.ensures.1 in
    rw (f.1, f.2) (inverse-met (n run) (A run) (p run) (q run) _ _ (sym (ap number_of c.in_err-eliminate.was) ∙ told run))

pub returns : goal.returns
returns c =
    let run = (goal.at.returns c).After-eliminate in
    let hp : p run < n run = search rules in
    let hq : q run < n run = search rules in
    let at : (i j : ℕ) → i < n run → j < n run → Z run i j ≡ inverse (n run) (A run) i j =
    λ i j h k. solution-is (n run) (n run) (A run) (λ (r k : ℕ). unit_column k r) _ (filled run).fill_identity.ensures _ _ _ run.eliminate.ensures _ c.in_ok-eliminate.was i j h k in
    let pp = at (p run) (p run) hp hp in
    let qq = at (q run) (q run) hq hq in
    let pq = at (p run) (q run) hp hq in
    c.ok_or.ensures.value
    ∙ ap (λ (o : Option Complex). ok_or o ComputedNotFinite)
    (c.seen_across.ensures ∙ ap₂ (λ (l : List Float) (z : Complex). pair l z) (numbers-same (Z run) (inverse (n run) (A run)) (p run) (q run) pp qq pq) (across-same (Z run) (inverse (n run) (A run)) (p run) (q run) pp qq pq))
    ∙ inverse-found (n run) (A run) (p run) (q run) _ (sym (ap number_of c.in_ok-eliminate.was) ∙ told run)

pub overflow_add-n : goal.overflow_add-n
overflow_add-n c = omega arith

pub overflow_mul-n : goal.overflow_mul-n
overflow_mul-n c = search products
