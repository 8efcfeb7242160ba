-- The refusals by number, and the answers that carry them. 0 is no refusal.
use Rattle.std.specs.Prelude.{ℕ, zero, suc, Bool, not, cond, List, eqb, Float, Result, Ok, Err}
use Rattle.binary64.specs.Values.{all_finite}
use Rattle.refusals.specs.declared.Refusal.{Refusal}
use Rattle.refusals.specs.declared.Refusal.TheVariants.{TooMany, WrongLength, ListsDiffer, NoBus, EmptySystem}
use Rattle.refusals.specs.declared.Refusal.TheVariants.{NoSuchEnd, NoSuchBus, BusTwice}
use Rattle.refusals.specs.declared.Refusal.TheVariants.{BadRecord, NotActive, SmallEntry, Singular, BeyondAllowance, GivenNotFinite}
use Rattle.refusals.specs.declared.Refusal.TheVariants.{ComputedNotFinite}

-- the library's limit on buses, branches and lists
abbrev pub limit : ℕ
limit = 256

-- ---- told from the input

-- more buses or branches than the limit, or a list longer than it
abbrev pub too_many : ℕ
too_many = 1

-- a matrix, output or work slice is not of its exact length, or a list of bus numbers not as long as the size
abbrev pub wrong_length : ℕ
wrong_length = 2

-- branch lists differ in length, or injections or voltages don't match the external or REI list
abbrev pub lists_differ : ℕ
lists_differ = 3

-- REI with no bus
abbrev pub no_bus : ℕ
no_bus = 4

-- a solve or inverse of size 0, or a right side of another length
abbrev pub empty_system : ℕ
empty_system = 5

-- a branch end not below the number of buses
abbrev pub no_such_end : ℕ
no_such_end = 6

-- a Ward list names a bus that the study's list of numbers lacks
abbrev pub no_such_bus : ℕ
no_such_bus = 7

-- a number stands twice in the list that a reducer or a Ward study is made with, or a bus in the Ward lists together
abbrev pub bus_twice : ℕ
bus_twice = 8

-- a record that no making or removal can have left, in its active rows or in its numbers
abbrev pub bad_record : ℕ
bad_record = 9

-- a given number is not finite, told last
abbrev pub given_not_finite : ℕ
given_not_finite = 19

-- ---- told from the state

-- the bus is not active
abbrev pub not_active : ℕ
not_active = 11

-- the bus's own entry is too small to divide by
abbrev pub small_entry : ℕ
small_entry = 12

-- a chosen pivot is too small to divide by
abbrev pub singular : ℕ
singular = 13

-- the next row reduction would exceed the allowance
abbrev pub beyond_allowance : ℕ
beyond_allowance = 18

-- a computed number is not finite
abbrev pub computed_not_finite : ℕ
computed_not_finite = 20

-- ---- the answers

-- number k where the test holds, else what comes after
abbrev pub refuse : Bool → ℕ → ℕ → ℕ
refuse test k next = cond test k next

-- the refusal of an input: the one told from lengths, lists and record, else 19 where a number given is not finite
unfoldable pub then_given : ℕ → List Float → ℕ
unfolding all_finite
then_given told given = cond (eqb told 0) (refuse (not (all_finite given)) given_not_finite 0) told

-- the refusal of a call that computes these numbers and meets nothing else: the input's, else 20 where one is not finite
unfoldable pub then_computed : ℕ → List Float → ℕ
unfolding all_finite
then_computed told computed = cond (eqb told 0) (refuse (not (all_finite computed)) computed_not_finite 0) told

-- the number of a refusal
abbrev pub number : Refusal → ℕ
number TooMany = too_many
number WrongLength = wrong_length
number ListsDiffer = lists_differ
number NoBus = no_bus
number EmptySystem = empty_system
number NoSuchEnd = no_such_end
number NoSuchBus = no_such_bus
number BusTwice = bus_twice
number BadRecord = bad_record
number NotActive = not_active
number SmallEntry = small_entry
number Singular = singular
number BeyondAllowance = beyond_allowance
number GivenNotFinite = given_not_finite
number ComputedNotFinite = computed_not_finite

-- The refusal with this number. That a call tells no other number is a law of its crate: `Told` in proofs/Answering.antt.
abbrev pub refusal : ℕ → Refusal
refusal k =
    cond (eqb k too_many) TooMany
    (cond (eqb k wrong_length) WrongLength
    (cond (eqb k lists_differ) ListsDiffer
    (cond (eqb k no_bus) NoBus
    (cond (eqb k empty_system) EmptySystem
    (cond (eqb k no_such_end) NoSuchEnd
    (cond (eqb k no_such_bus) NoSuchBus
    (cond (eqb k bus_twice) BusTwice
    (cond (eqb k bad_record) BadRecord
    (cond (eqb k not_active) NotActive
    (cond (eqb k small_entry) SmallEntry
    (cond (eqb k singular) Singular
    (cond (eqb k beyond_allowance) BeyondAllowance
    (cond (eqb k given_not_finite) GivenNotFinite ComputedNotFinite)))))))))))))

-- the answer of a call that gives v, with this refusal
unfoldable pub answered : {A : Type 0} → A → ℕ → Result A Refusal
answered v zero = Ok v
answered v (suc k) = Err (refusal (suc k))

-- the answer of a call that gives no value
abbrev pub outcome : ℕ → Result (Unit {0}) Refusal
outcome f = answered tt f

-- the number of an answer
abbrev pub number_of : {A : Type 0} → Result A Refusal → ℕ
number_of (Ok v) = 0
number_of (Err r) = number r
