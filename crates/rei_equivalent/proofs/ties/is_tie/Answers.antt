-- `rei_equivalent::ties::is_tie` meets its contract: each test is the definition's.
use Rattle.complex.specs.{tie_threshold}
use Rattle.rei_equivalent.specs.Rei.{is_tie}
use Rattle.rei_equivalent.proofs.ties.is_tie.Goals as goal

pub returns-then-abs : goal.returns-then-abs
unfolding is_tie tie_threshold
returns-then-abs c = rw (← c.abs.ensures, c.if-abs.true)

pub returns-else-abs : goal.returns-else-abs
unfolding is_tie tie_threshold
returns-else-abs c = rw (← c.abs.ensures, c.if-abs.false, ← c.abs-else-abs.ensures)
