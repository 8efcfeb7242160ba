-- `rei_equivalent::matrix::SubMatrix::tie_all` meets its contract: the ties stand at the front, and what is behind them is cleared.
use Rattle.prelude.proofs.Prelude.{◌≡◌, sym, ◌∙◌, ◌*◌, ◌-◌, ◌≤◌, arith, rules, length, take, drop, replicate, zero-add}
use Rattle.complex.specs.{plus0, zeros}
use Rattle.rei_equivalent.specs.Rei.{all_ties, tie_ends, tie_parts, tie_room}
use Rattle.rei_equivalent.proofs.TieLaws.{then-cleared, ties-fit, length-flat, ends-flat, parts-flat}
use Rattle.rei_equivalent.proofs.matrix.SubMatrix.tie_all.Goals.{After-tie_rows-count}
use Rattle.rei_equivalent.proofs.matrix.SubMatrix.tie_all.Goals as goal

-- the ties are within both slices
within : (c : After-tie_rows-count) → (2 * c.tie_rows-count.result ≤ tie_room c.args.self.n)
    × (length c.tie_rows-count.new.ends ≡ tie_room c.args.self.n)
    × (length c.tie_rows-count.new.ties ≡ tie_room c.args.self.n)
within c = (
  omega (arith, c.tie_rows-count.ensures.behind, ties-fit c.args.self.n c.args.self.y.now c.args.buses.now),
  c.tie_rows-count.auto.ends ∙ c.requires.room.0,
  c.tie_rows-count.auto.ties ∙ c.requires.room.1,
)

pub returns : goal.returns
unfolding zeros
returns c =
    let k = 2 * c.tie_rows-count.result in
    let ends = c.tie_rows-count.new.ends in
    let (fit, long, _) = within (goal.at.returns c).After-tie_rows-count in
    let all = all_ties c.args.self.n c.args.self.y.now c.args.buses.now in
    let count : c.tie_rows-count.result ≡ length all = rw zero-add at c.tie_rows-count.ensures.behind in
    let x : length (tie_ends all) ≡ k = rw count (length-flat ends-flat all) in
    let y : length (tie_parts all) ≡ k = rw count (length-flat parts-flat all) in
    let filled : c.fill.new.self ≡ replicate (length (take (length ends - k) (drop k ends))) 0 = search rules in
    record {
      counted = count;
      ends_are = rw (filled, ← count, long)
          (then-cleared (tie_ends all) c.args.ends.now _ 0 k (tie_room c.args.self.n) x (sym c.requires.room.0) fit c.tie_rows-count.ensures.ends_are);
      ties_are = rw (c.clear.ensures, ← count, c.tie_rows-count.auto.ties ∙ c.requires.room.1)
          (then-cleared (tie_parts all) c.args.ties.now _ plus0 k (tie_room c.args.self.n) y (sym c.requires.room.1) fit c.tie_rows-count.ensures.ties_are);
    }

pub overflow_mul-behind : goal.overflow_mul-behind
overflow_mul-behind c = omega (arith, within (goal.at.overflow_mul-behind c).After-tie_rows-count)

pub offset_bounds-ends-behind : goal.offset_bounds-ends-behind
offset_bounds-ends-behind c = omega (arith, within (goal.at.offset_bounds-ends-behind c).After-tie_rows-count)

pub slice_bounds-fill-count : goal.slice_bounds-fill-count
slice_bounds-fill-count c = omega (arith, within (goal.at.slice_bounds-fill-count c).After-tie_rows-count)

pub slice_bounds-fill-start : goal.slice_bounds-fill-start
slice_bounds-fill-start c = omega (arith, within (goal.at.slice_bounds-fill-start c).After-tie_rows-count)

pub offset_bounds-ties-behind : goal.offset_bounds-ties-behind
offset_bounds-ties-behind c = omega (arith, within (goal.at.offset_bounds-ties-behind c).After-tie_rows-count)

pub slice_bounds-clear-count : goal.slice_bounds-clear-count
slice_bounds-clear-count c = omega (arith, within (goal.at.slice_bounds-clear-count c).After-tie_rows-count)

pub slice_bounds-clear-start : goal.slice_bounds-clear-start
slice_bounds-clear-start c = omega (arith, within (goal.at.slice_bounds-clear-start c).After-tie_rows-count)
