-- What the entries of Kron reduction answer and leave, by the library's own definitions of the record that the bytes hold. Where they are
-- not as many as a record has, the call is refused and nothing is written. A name with ' is what stands there at the end.
use Rattle.std.specs.Prelude.{ℕ, ◌≡◌, ◌||◌, cond, List, eqb, ltb, length, Float}
use Rattle.refusals.specs.Refusals.{limit, too_many, wrong_length, not_active, small_entry, computed_not_finite, refuse, number_of}
use Rattle.complex.specs.declared.Complex.{Complex}
use Rattle.kron_reduction.specs.Reducer.{AfterBus, AfterBuses, reducer_input_of, made, after_new, after_bus, after_buses}
use Rattle.kron_reduction.specs.Reading as reading
use Rattle.entries.specs.Records.{record_bytes, record_in, stored_record}
use Rattle.entries.specs.Answers.{answer_after, value_after}

-- the first where the bytes are as many as a record has, else the second
abbrev pub where_fits : {A : Type 0} → List ℕ → A → A → A
where_fits rec new held = cond (eqb (length rec) record_bytes) new held

-- the library's refusal f of a call that itself gives a size of n buses and a list of l; where the bytes are no record, 1 for more than the
-- limit, else 2
unfoldable pub fitting : List ℕ → ℕ → ℕ → ℕ → ℕ
fitting rec n l f = where_fits rec f (refuse (ltb limit n || ltb limit l) too_many wrong_length)

-- ---- new

pub record ReducerMade (n : ℕ) (ys : List Float) (ns rec : List ℕ) (f : ℕ) (rec' : List ℕ) : Type 0 where
  pub told : f ≡ fitting rec n (length ns) (number_of (after_new (reducer_input_of n ys ns)))
  pub stored : rec' ≡ stored_record f (made (reducer_input_of n ys ns)) rec

-- ---- one bus

pub record BusRemovedBy (left : AfterBus) (rec : List ℕ) (ys : List Float) (f : ℕ) (rec' : List ℕ) (ys' : List Float)
    : Type 0 where
  pub told : f ≡ fitting rec 0 1 (number_of left.out.answer)
  pub stored : rec' ≡ stored_record f left.out.rec rec
  pub matrix : ys' ≡ where_fits rec left.slice ys

-- record and matrix at entry, f is returned, and both at the end
abbrev pub BusRemoved : List ℕ → List Float → ℕ → ℕ → List ℕ → List Float → Type 0
BusRemoved rec ys bus = BusRemovedBy (after_bus (record_in rec) ys bus) rec ys

-- ---- a list of buses

-- the refusal where it is told from the input; 0 for a list that is carried out or stopped, by 11, 12 or 20
unfoldable pub from_input : ℕ → ℕ
from_input f = cond (eqb f not_active || eqb f small_entry || eqb f computed_not_finite) 0 f

-- the refusal of a list that removed no bus; 0 of one that removed some, stopped or not
unfoldable pub none_removed : ℕ → ℕ → ℕ
none_removed f count = cond (eqb count 0) f 0

pub record ListRemovedBy (left : AfterBuses) (rec : List ℕ) (ys : List Float) (l removed f : ℕ)
    (rec' : List ℕ) (ys' : List Float) (removed' : ℕ) : Type 0 where
  pub told : f ≡ fitting rec 0 l (number_of left.out.removals.answer)
  pub stored : rec' ≡ stored_record (none_removed f left.out.removals.removed) left.out.rec rec
  pub matrix : ys' ≡ where_fits rec left.slice ys
  pub counted : removed' ≡ answer_after (from_input f) left.out.removals.removed removed

abbrev pub ListRemoved : List ℕ → List Float → List ℕ → ℕ → ℕ → List ℕ → List Float → ℕ → Type 0
ListRemoved rec ys ks = ListRemovedBy (after_buses (record_in rec) ys ks) rec ys (length ks)

-- ---- reading

pub record MatrixReadBy (left : reading.AfterMatrix) (rec : List ℕ) (out : List Float) (f : ℕ) (out' : List Float) : Type 0 where
  pub told : f ≡ fitting rec 0 0 (number_of left.answer)
  pub matrix : out' ≡ where_fits rec left.out out

abbrev pub MatrixRead : List ℕ → List Float → List Float → ℕ → List Float → Type 0
MatrixRead rec ys out = MatrixReadBy (reading.after_matrix (record_in rec) ys out) rec out

pub record ActiveReadBy (left : reading.AfterActive) (rec buses : List ℕ) (count f : ℕ) (buses' : List ℕ) (count' : ℕ) : Type 0 where
  pub told : f ≡ fitting rec 0 0 (number_of left.answer)
  pub numbers : buses' ≡ where_fits rec left.buses buses
  pub counted : count' ≡ answer_after f (record_in rec).n_buses count

abbrev pub ActiveRead : List ℕ → List ℕ → ℕ → ℕ → List ℕ → ℕ → Type 0
ActiveRead rec buses = ActiveReadBy (reading.after_active (record_in rec) buses) rec buses

-- z is what the two pointers hold
pub record ImpedanceReadBy (left : reading.AfterImpedance) (rec : List ℕ) (work : List Float) (z : Complex)
    (f : ℕ) (work' : List Float) (z' : Complex) : Type 0 where
  pub told : f ≡ fitting rec 0 0 (number_of left.answer)
  pub cleared : work' ≡ where_fits rec left.work work
  pub value : z' ≡ where_fits rec (value_after left.answer z) z

abbrev pub ImpedanceRead : List ℕ → List Float → ℕ → ℕ → List Float → Complex → ℕ → List Float → Complex → Type 0
ImpedanceRead rec ys i j work = ImpedanceReadBy (reading.after_impedance (record_in rec) ys i j work) rec work
