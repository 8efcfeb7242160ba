-- `ward_equivalent::rows::add_scaled` meets its contract. The invariant: the entries before j have gained theirs.
use Rattle.prelude.proofs.Prelude.{◌≡◌, ap, ◌∙◌, ℕ, ◌<◌, arith}
use Rattle.complex.specs.{Complex, cadd, cmul, entry, put}
use Rattle.solver.proofs.Passed.{put-none, mapped-more}
use Rattle.ward_equivalent.proofs.rows.add_scaled.Goals as goal

pub loop-j-init : goal.loop-j-init
loop-j-init c =
    (omega arith, c.requires.0, put-none c.args.row.now (λ (k : ℕ). cadd (entry c.args.row.now k) (cmul c.args.factor (entry c.args.other.now k))))

pub loop-j-preserved : goal.loop-j-preserved
loop-j-preserved c =
    let f : ℕ → Complex → Complex = λ (k : ℕ) (x : Complex). cadd x (cmul c.args.factor (entry c.args.other.now k)) in
    let value : c.cadd.result ≡ f c.loop-j.j (entry c.loop-j.row c.loop-j.j) = cc (c.cadd.ensures, c.cmul.ensures, c.get-o.ensures, c.get-x.ensures) in
    mapped-more f c.args.row.now c.loop-j.row c.put.new.s c.args.w c.loop-j.j c.loop-j-test.true c.loop-j.invariant.1 c.loop-j.invariant.2 (c.put.ensures ∙ ap (put c.loop-j.row c.loop-j.j) value)

pub returns : goal.returns
returns c = λ (q : ℕ) (h : q < c.args.w). c.loop-j.invariant.2.behind q (omega arith)
