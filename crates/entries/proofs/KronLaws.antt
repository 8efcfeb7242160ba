-- The entries of Kron reduction: a record of another length, and one that fits.
use Rattle.prelude.proofs.Prelude.{◌≡◌, refl, ap, ◌∙◌, Bool, true, false, ◌&&◌, ◌||◌, cond, List, ℕ, rules, eqb, ltb, length, Float, eq-eqb, ne_eqb}
use Rattle.complex.specs.{Complex}
use Rattle.refusals.specs.Refusals.{limit, too_many, wrong_length, refuse, number, number_of}
use Rattle.std.proofs.Common.{Result, Ok, Err}
use Rattle.refusals.specs.declared.Refusal.{Refusal}
use Rattle.refusals.proofs.Answering.{accepted}
use Rattle.dc_flow.proofs.Accepted.{numbered}
use Rattle.kron_reduction.specs.declared.KronReducer.{KronReducer}
use Rattle.kron_reduction.specs.declared.AfterRemoval.{AfterRemoval}
use Rattle.kron_reduction.specs.declared.AfterRemovals.{AfterRemovals}
use Rattle.kron_reduction.specs.Reducer.{ReducerInput, reducer_input_of, made, after_new, after_bus, after_buses}
use Rattle.kron_reduction.specs.Reading as reading
use Rattle.entries.specs.Records.{record_bytes, record_in, in_bytes, stored_record}
use Rattle.entries.specs.Answers.{answer_after, value_after}
use Rattle.entries.specs.Kron.{fitting, ReducerMade, BusRemoved, from_input, none_removed, ListRemoved, MatrixRead, ActiveRead, ImpedanceRead}

abbrev Fits : List ℕ → Type 0
Fits rec = length rec ≡ record_bytes

fit : (rec : List ℕ) (n l f : ℕ) → Fits rec → fitting rec n l f ≡ f
unfolding fitting
fit rec n l f h = rw (eq-eqb (length rec) record_bytes h) refl

unfit : (rec : List ℕ) (n l f : ℕ) → (Fits rec → ⊥) → refuse (ltb limit n || ltb limit l) too_many wrong_length ≡ fitting rec n l f
unfolding fitting
unfit rec n l f h = rw (ne_eqb (length rec) record_bytes h) refl

left : {A : Type 0} (rec : List ℕ) (x y : A) → Fits rec → x ≡ cond (eqb (length rec) record_bytes) x y
left rec x y h = rw (eq-eqb (length rec) record_bytes h) refl

as_it_was : {A : Type 0} (rec : List ℕ) (x y : A) → (Fits rec → ⊥) → y ≡ cond (eqb (length rec) record_bytes) x y
as_it_was rec x y h = rw (ne_eqb (length rec) record_bytes h) refl

unstored : (rec : List ℕ) (f : ℕ) (r : KronReducer) → (Fits rec → ⊥) → rec ≡ stored_record f r rec
unfolding stored_record
unstored rec f r h = rw (ne_eqb (length rec) record_bytes h) (elim (eqb f 0) as (λ b. rec ≡ cond (b && false) (in_bytes r) rec) [ true ↦ refl | false ↦ refl ])

-- ---- new

pub fresh-unfit : (n : ℕ) (ys : List Float) (ns rec : List ℕ) (f : ℕ)
    → (Fits rec → ⊥) → f ≡ refuse (ltb limit n || ltb limit (length ns)) too_many wrong_length → ReducerMade n ys ns rec f rec
fresh-unfit n ys ns rec f h e = record { told = e ∙ unfit _ _ _ _ h; stored = unstored _ _ _ h }

-- the record that is answered is the one made
made-record : (M : ReducerInput) (r : KronReducer) → Ok r ≡ after_new M → r ≡ made M
unfolding after_new made
made-record M r e = let (z, q) = accepted (tt {0}) _ _ r e in rw z q

pub fresh-fit : (n : ℕ) (ys : List Float) (ns rec : List ℕ) (r : KronReducer) (rec' : List ℕ)
    → Fits rec → Ok r ≡ after_new (reducer_input_of n ys ns) → rec' ≡ stored_record 0 r rec → ReducerMade n ys ns rec 0 rec'
fresh-fit n ys ns rec r rec' h e k = record { told = rw fit (ap number_of e); stored = rw (made-record _ r e) at k }

pub fresh-refused : (n : ℕ) (ys : List Float) (ns rec : List ℕ) (f : ℕ) (r : Refusal)
    → Fits rec → Err r ≡ after_new (reducer_input_of n ys ns) → f ≡ number r → ReducerMade n ys ns rec f rec
unfolding stored_record
fresh-refused n ys ns rec f r h e g = record { told = rw fit (g ∙ ap number_of e); stored = rw (g, ne_eqb (number r) 0 (numbered r)) }

-- ---- one bus

pub removed-unfit : (rec : List ℕ) (ys : List Float) (bus : ℕ) → (Fits rec → ⊥) → BusRemoved rec ys bus 2 rec ys
removed-unfit rec ys bus h = record { told = unfit rec 0 1 _ h; stored = unstored _ _ _ h; matrix = as_it_was rec _ _ h }

pub removed-fit : (rec : List ℕ) (ys : List Float) (bus f : ℕ) (r : KronReducer) (t : AfterRemoval) (rec' : List ℕ) (ys' : List Float)
    → Fits rec → r ≡ record_in rec → t ≡ (after_bus r ys bus).out → ys' ≡ (after_bus r ys bus).slice → f ≡ number_of t.answer
    → rec' ≡ stored_record f t.rec rec → BusRemoved rec ys bus f rec' ys'
removed-fit rec ys bus f r t rec' ys' h i e s g k = record { told = rw fit cc; stored = cc; matrix = rw (eq-eqb (length rec) record_bytes h) cc }

-- ---- a list of buses

-- 1 and 2 are no stops, and leave an answer as it was
unfit-answer_after : (b : Bool) (x held : ℕ) → held ≡ answer_after (from_input (refuse b too_many wrong_length)) x held
unfolding answer_after from_input
unfit-answer_after true x held = refl
unfit-answer_after false x held = refl

pub listed-unfit : (rec : List ℕ) (ys : List Float) (ks : List ℕ) (removed f : ℕ)
    → (Fits rec → ⊥) → f ≡ refuse (ltb limit 0 || ltb limit (length ks)) too_many wrong_length → ListRemoved rec ys ks removed f rec ys removed
listed-unfit rec ys ks removed f h e = record {
  told = e ∙ unfit rec 0 (length ks) _ h;
  stored = unstored _ _ _ h;
  matrix = as_it_was rec _ _ h;
  counted = rw e (unfit-answer_after (ltb limit (length ks)) _ removed);
}

pub listed-fit : (rec : List ℕ) (ys : List Float) (ks : List ℕ) (removed f p s : ℕ) (r : KronReducer) (t : AfterRemovals) (rec' : List ℕ) (ys' : List Float) (removed' : ℕ)
    → Fits rec → r ≡ record_in rec → t ≡ (after_buses r ys ks).out → ys' ≡ (after_buses r ys ks).slice → f ≡ number_of t.removals.answer
    → p ≡ none_removed f t.removals.removed → rec' ≡ stored_record p t.rec rec
    → s ≡ from_input f → removed' ≡ answer_after s t.removals.removed removed → ListRemoved rec ys ks removed f rec' ys' removed'
listed-fit rec ys ks removed f p s r t rec' ys' removed' h i e y g j k u v =
    record { told = rw fit cc; stored = cc; matrix = rw (eq-eqb (length rec) record_bytes h) cc; counted = cc }

-- ---- reading

pub shown-unfit : (rec : List ℕ) (ys out : List Float) → (Fits rec → ⊥) → MatrixRead rec ys out 2 out
shown-unfit rec ys out h = record { told = unfit rec 0 0 _ h; matrix = as_it_was rec _ _ h }

pub shown-fit : (rec : List ℕ) (ys out : List Float) (f : ℕ) (r : KronReducer) (a : Result (Unit {0}) Refusal) (out' : List Float)
    → Fits rec → r ≡ record_in rec → a ≡ (reading.after_matrix r ys out).answer → out' ≡ (reading.after_matrix r ys out).out → f ≡ number_of a
    → MatrixRead rec ys out f out'
shown-fit rec ys out f r a out' h i e s g = record { told = rw fit cc; matrix = rw (eq-eqb (length rec) record_bytes h) cc }

unfit-count : (x held : ℕ) → held ≡ answer_after 2 x held
unfolding answer_after
unfit-count x held = refl

pub active-unfit : (rec buses : List ℕ) (count : ℕ) → (Fits rec → ⊥) → ActiveRead rec buses count 2 buses count
active-unfit rec buses count h = record { told = unfit rec 0 0 _ h; numbers = as_it_was rec _ _ h; counted = unfit-count _ _ }

pub active-fit : (rec buses : List ℕ) (count f : ℕ) (r : KronReducer) (a : Result (Unit {0}) Refusal) (buses' : List ℕ) (count' : ℕ)
    → Fits rec → r ≡ record_in rec → a ≡ (reading.after_active r buses).answer → buses' ≡ (reading.after_active r buses).buses → f ≡ number_of a
    → count' ≡ answer_after f r.n_buses count → ActiveRead rec buses count f buses' count'
active-fit rec buses count f r a buses' count' h i e s g k = record { told = rw fit cc; numbers = rw (eq-eqb (length rec) record_bytes h) cc; counted = cc }

pub seen-unfit : (rec : List ℕ) (ys : List Float) (i j : ℕ) (work : List Float) (z : Complex) → (Fits rec → ⊥) → ImpedanceRead rec ys i j work z 2 work z
seen-unfit rec ys i j work z h = record { told = unfit rec 0 0 _ h; cleared = as_it_was rec _ _ h; value = as_it_was rec _ _ h }

pub seen-fit : (rec : List ℕ) (ys : List Float) (i j : ℕ) (work : List Float) (z : Complex) (f : ℕ) (r : KronReducer) (a : Result Complex Refusal) (work' : List Float) (z' : Complex)
    → Fits rec → r ≡ record_in rec → a ≡ (reading.after_impedance r ys i j work).answer → work' ≡ (reading.after_impedance r ys i j work).work
    → z' ≡ value_after a z → f ≡ number_of a → ImpedanceRead rec ys i j work z f work' z'
seen-fit rec ys i j work z f r a work' z' h b e w v g = record {
  told = rw fit cc;
  cleared = rw (eq-eqb (length rec) record_bytes h) cc;
  value = rw (eq-eqb (length rec) record_bytes h) cc;
}

-- what an entry returns, once its record is found not to fit, or to fit
pub ruleset unfitted = (fresh-unfit, removed-unfit, listed-unfit, shown-unfit, active-unfit, seen-unfit)

pub ruleset fitted = (unfitted, fresh-fit, fresh-refused, removed-fit, listed-fit, shown-fit, active-fit, seen-fit, rules)
