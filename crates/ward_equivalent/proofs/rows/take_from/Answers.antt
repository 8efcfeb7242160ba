-- `ward_equivalent::rows::take_from` meets its contract. The invariant: the entries before j are taken from the bus's own.
use Rattle.prelude.proofs.Prelude.{◌≡◌, ap, ◌∙◌, ℕ, ◌<◌, arith, length, get_or}
use Rattle.complex.specs.{Complex, csub, entry, put, entry_at}
use Rattle.solver.proofs.Passed.{put-none, mapped-more}
use Rattle.ward_equivalent.proofs.Places.{listed_below, entry-index}
use Rattle.ward_equivalent.proofs.rows.take_from.Goals as goal

pub loop-j-init : goal.loop-j-init
loop-j-init c =
    (omega arith, c.requires.2, put-none c.args.row.now (λ (k : ℕ). csub (entry_at c.args.matrix.n c.args.matrix.y.now c.args.bus (get_or c.args.kept.now k 0)) (entry c.args.row.now k)))

pub at-g-requires : goal.at-g-requires
at-g-requires c =
    entry-index c.args.matrix.n c.args.matrix.y.now c.requires.0.full c.args.bus (get_or c.args.kept.now c.loop-j.j 0) c.requires.1
    (listed_below c.args.matrix.n c.args.matrix.y.now c.args.kept.now c.requires.0 c.loop-j.j c.loop-j-test.true)

pub loop-j-preserved : goal.loop-j-preserved
loop-j-preserved c =
    let x = c.get-x in let f : ℕ → Complex → Complex = λ (k : ℕ) (x : Complex). csub (entry_at c.args.matrix.n c.args.matrix.y.now c.args.bus (get_or c.args.kept.now k 0)) x in
    let value : c.csub.result ≡ f c.loop-j.j (entry c.loop-j.row c.loop-j.j) = c.csub.ensures ∙ ap (λ (u : Complex). csub u x.result) c.at-g.ensures ∙ ap (f c.loop-j.j) x.ensures in
    mapped-more f c.args.row.now c.loop-j.row c.put.new.s (length c.args.kept.now) c.loop-j.j c.loop-j-test.true c.loop-j.invariant.1 c.loop-j.invariant.2 (c.put.ensures ∙ ap (put c.loop-j.row c.loop-j.j) value)

pub returns : goal.returns
returns c = λ (q : ℕ) (h : q < length c.args.kept.now). c.loop-j.invariant.2.behind q (omega arith)
