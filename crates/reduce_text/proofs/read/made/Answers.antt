-- `reduce_text::read::made` meets its contract: the first line, then the lines up to the entries.
use Rattle.prelude.proofs.Prelude.{◌≡◌, sym, ap, ◌∙◌, [], ℕ, ◌+◌, ◌≤◌, arith, length}
use Rattle.std.specs.Prelude.{Some, None}
use Rattle.reduce_text.specs.declared.read.Trouble.TheVariants.{BadLine}
use Rattle.reduce_text.specs.Lines.{line_at, buses_of}
use Rattle.reduce_text.specs.Reading.{most, named}
use Rattle.reduce_text.specs.Inner.Steps.{behind}
use Rattle.reduce_text.proofs.ReadLaws.{next, told-none, no-buses, line-inside, line-ends, next_is, unbegun, begun-as, first-bad, first-over, first-go}
use Rattle.reduce_text.proofs.read.made.Goals.{In_ok-n}
use Rattle.reduce_text.proofs.read.made.Goals as goal

pub returns-in_err-n : goal.returns-in_err-n
returns-in_err-n c =
    let none : buses_of (line_at c.args.input.now 0) ≡ None = let z = c.in_err-n.ensures.ok_part in cc in
    rw (told-none c.from_residual.result c.number_after.result _ _ c.in_err-n.ensures.ok_part c.in_err-n.ensures.value c.from_residual.ensures.1)
    (unbegun (BadLine 1) (λ go. first-bad c.args.input.now go none))

-- the first line's number, and where the second line starts
first_line : (c : In_ok-n) → (buses_of (line_at c.args.input.now 0) ≡ Some c.in_ok-n.n) × (length c.line_at-line.result.now + 1 ≡ next c.args.input.now 0) × (next c.args.input.now 0 ≤ length c.args.input.now + 1)
first_line c =
    let e : buses_of (line_at c.args.input.now 0) ≡ Some c.in_ok-n.n = let z = c.in_ok-n.ensures.ok_part in cc in
    (e, let k = next_is c.args.input.now 0 in rw c.line_at-line.ensures (omega arith), line-ends buses_of no-buses _ _ _ e)

pub returns-then-n : goal.returns-then-n
unfolding most
returns-then-n c =
    let e : buses_of (line_at c.args.input.now 0) ≡ Some c.in_ok-n.n = let z = c.in_ok-n.ensures.ok_part in cc in
    unbegun (BadLine 1) (λ go. first-over c.args.input.now go c.in_ok-n.n e (line-inside buses_of no-buses _ _ _ e) c.if-n.true)

pub reducer-requires : goal.reducer-requires
unfolding most
reducer-requires c =
    let f = first_line (goal.at.reducer-requires c).In_ok-n in (c.if-n.false, c.requires, omega (arith, f.1, f.2))

pub returns : goal.returns
unfolding most
returns c =
    let f = first_line (goal.at.returns c).In_ok-n in
    begun-as
    (λ go.
    first-go c.args.input.now go c.in_ok-n.n f.0 (line-inside buses_of no-buses _ _ _ f.0) c.if-n.false
    ∙ ap (λ (k : ℕ). named go c.in_ok-n.n c.in_ok-n.n 2 [] (behind c.args.input.now k)) (sym f.1))
    c.reducer.ensures
