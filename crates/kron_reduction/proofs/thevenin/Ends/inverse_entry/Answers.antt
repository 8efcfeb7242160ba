-- `kron_reduction::thevenin::Ends::inverse_entry` meets its contract.
use Rattle.prelude.proofs.Prelude.{arith, rules}
use Rattle.complex.specs.{entry_at}
use Rattle.solver.specs.Inner.Work.{right_sides}
use Rattle.kron_reduction.proofs.Across.{work-room}
use Rattle.kron_reduction.proofs.thevenin.Ends.inverse_entry.Goals as goal

pub overflow_mul-i : goal.overflow_mul-i
overflow_mul-i c = let h = work-room c.args.self.n c.args.i (search rules) c.requires.0 in omega (arith, h.0, h.1)

pub overflow_add-i : goal.overflow_add-i
overflow_add-i c = let h = work-room c.args.self.n c.args.i (search rules) c.requires.0 in omega (arith, h.0, h.1, c.requires.1)

pub get-requires : goal.get-requires
get-requires c = let h = work-room c.args.self.n c.args.i (search rules) c.requires.0 in omega (arith, h.0, c.requires.1, c.requires.2)

pub returns : goal.returns
unfolding right_sides entry_at
returns c = c.get.ensures

pub overflow_add-self : goal.overflow_add-self
overflow_add-self c = omega arith

pub overflow_add-self-2 : goal.overflow_add-self-2
overflow_add-self-2 c = omega (arith, c.requires.1)
