-- `reduce_text::read::after_entries` meets its contract: the drops, and the end where they stopped.
use Rattle.prelude.proofs.Prelude.{◌≡◌, sym, ap, ◌∙◌, ◌++◌, ◌*◌, ◌≤◌, arith, length, take, drop, length-take-le}
use Rattle.reduce_text.specs.Reading.{Run, End, ended, drops, finish}
use Rattle.reduce_text.specs.Inner.Steps.{behind, place_behind}
use Rattle.reduce_text.proofs.ReadLaws.{few-fits, square, square-fits, stopped}
use Rattle.reduce_text.proofs.read.after_entries.Goals as goal

pub drops-out-requires : goal.drops-out-requires
drops-out-requires c = omega (arith, few-fits _ c.requires.0, square-fits _ c.requires.0)

pub returns : goal.returns
returns c =
    let s = c.args.start in let M = c.args.matrix.now in let m = 2 * (s.n * s.n) in
    let k : m ≤ length M = omega (arith, c.requires.1, square s.n c.requires.0) in
    let len : length c.drops-out.new.y ≡ m = c.drops-out.auto.y ∙ length-take-le m M k in
    let R : drops finish (place_behind s.n) s.rec (take m M) (behind c.args.input.now s.at) ≡ ended c.end_of.result c.drops-out.result.rec c.drops-out.new.y =
    c.drops-out.ensures finish
    ∙ stopped c.args.input.now c.drops-out.result.stop c.drops-out.result.rec c.drops-out.new.y
    ∙ ap (λ (e : End). ended e c.drops-out.result.rec c.drops-out.new.y) (sym c.end_of.ensures) in
    record {
      says = sym (ap (λ (r : Run). r.reading) R);
      whole = ap (λ (r : Run). length r.numbers) R ∙ len;
      leaves = sym (ap (λ (r : Run). r.numbers ++ drop m M) R);
    }
