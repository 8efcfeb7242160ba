use Rattle.lists.specs.Buses.{rows_in}
use Rattle.lists.proofs.Fronts.{Filling}
use Rattle.lists.proofs.numbers.rows_of.Given as goal

abbrev pub invariant-loop-i : goal.invariant-loop-i
invariant-loop-i l = Filling (rows_in l.numbers l.list) l.initial.rows l.rows l.i
