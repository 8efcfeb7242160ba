-- `ward_equivalent::lengths::wrong_lengths` meets its contract.
use Rattle.prelude.proofs.Prelude.{◌+◌, ◌*◌, ◌≤◌, arith, mul-le-mul}
use Rattle.refusals.specs.Refusals.{limit}
use Rattle.ward_equivalent.specs.declared.lengths.Lengths.{Lengths}
use Rattle.ward_equivalent.proofs.Told.{Few, few}
use Rattle.ward_equivalent.proofs.lengths.wrong_lengths.Goals.{After-struct_known-1}
use Rattle.ward_equivalent.proofs.lengths.wrong_lengths.Goals as goal

module _ (c : After-struct_known-1) where
  abbrev l : Lengths
  l = c.args.l

  within : Few l
  within = few l c.requires

  square : l.size * l.size ≤ limit * limit
  square = mul-le-mul within.size within.size

  retained : l.internal + l.boundary ≤ limit + limit
  retained = omega (arith, within.internal, within.boundary)

  reduced : (l.internal + l.boundary) * (l.internal + l.boundary) ≤ (limit + limit) * (limit + limit)
  reduced = mul-le-mul retained retained

  system : l.external * (l.external + (l.internal + l.boundary) + 1) ≤ limit * (limit + (limit + limit) + 1)
  system = mul-le-mul within.external (let w : l.external + (l.internal + l.boundary) + 1 ≤ limit + (limit + limit) + 1 = omega (arith, within.external, retained) in w)

pub overflow_add-r : goal.overflow_add-r
overflow_add-r c = omega (arith, retained c)

pub overflow_mul-given : goal.overflow_mul-given
overflow_mul-given c = omega (arith, square c)

pub overflow_mul-given-2 : goal.overflow_mul-given-2
overflow_mul-given-2 c = omega (arith, square c)

pub overflow_mul-y_ward : goal.overflow_mul-y_ward
overflow_mul-y_ward c = omega (arith, reduced c)

pub overflow_mul-y_ward-2 : goal.overflow_mul-y_ward-2
overflow_mul-y_ward-2 c = omega (arith, reduced c)

pub overflow_add-work : goal.overflow_add-work
overflow_add-work c = omega (arith, retained c, (within c).external)

pub overflow_add-work-2 : goal.overflow_add-work-2
overflow_add-work-2 c = omega (arith, retained c, (within c).external)

pub overflow_mul-work : goal.overflow_mul-work
overflow_mul-work c = omega (arith, system c)

pub overflow_mul-work-2 : goal.overflow_mul-work-2
overflow_mul-work-2 c = omega (arith, system c)
