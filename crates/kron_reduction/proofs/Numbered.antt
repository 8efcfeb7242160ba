-- Every number that a call tells has a refusal.
use Rattle.prelude.proofs.Prelude.{refl, Bool, true, false, not, ◌||◌, cond, List, [], ◌∷◌, ℕ, ◌*◌, eqb, ltb, length, Float}
use Rattle.refusals.specs.declared.Refusal.TheVariants.{TooMany, WrongLength, BusTwice, BadRecord, NotActive, SmallEntry, ComputedNotFinite}
use Rattle.refusals.specs.declared.Allowance.TheVariants.{Unlimited}
use Rattle.binary64.specs.Values.{all_finite}
use Rattle.complex.specs.{Matrix}
use Rattle.refusals.specs.Refusals.{limit, refuse, answered}
use Rattle.refusals.specs.Work.{then_work}
use Rattle.refusals.proofs.Answering.{Told, told-refuse, told-then, told-given}
use Rattle.refusals.proofs.Work.{told-work}
use Rattle.lists.specs.Buses.{mem, repeats}
use Rattle.kron_reduction.specs.declared.KronReducer.{KronReducer}
use Rattle.kron_reduction.specs.Kron.{State, of_removal, remove, removal_refusal, accepts, stopped_by}
use Rattle.kron_reduction.specs.Reducer.{ReducerInput, making_shape_refusal, making_refusal, sound, input_shape_refusal, input_refusal, present, state_of, rows_of, removals_refusal}
use Rattle.kron_reduction.specs.Reading.{reading_shape_refusal, reading_refusal, active_refusal, steps_of_impedance, impedance_told}

pub making-numbered : (M : ReducerInput) → Told (making_refusal M)
unfolding making_refusal making_shape_refusal answered
making-numbered M =
    told-given _ M.given
    (told-refuse (ltb limit M.size || ltb limit (length M.numbers)) TooMany _
    (told-refuse (not (eqb (length M.given) (2 * (M.size * M.size))) || not (eqb (length M.numbers) M.size)) WrongLength _
    (told-refuse (repeats M.numbers) BusTwice 0 refl)))

told-shape : (r : KronReducer) (ys : List Float) (l : ℕ) → Told (input_shape_refusal r ys l)
unfolding input_shape_refusal answered
told-shape r ys l =
    told-refuse (ltb limit r.made || ltb limit l) TooMany _
    (told-refuse (not (eqb (length ys) (2 * (r.made * r.made)))) WrongLength _
    (told-refuse (not (sound r)) BadRecord 0 refl))

pub reading-numbered : (per : ℕ) (r : KronReducer) (ys : List Float) (m : ℕ) → Told (reading_refusal per r ys m)
unfolding reading_refusal reading_shape_refusal
reading-numbered per r ys m =
    told-given _ (present r ys)
    (told-refuse (ltb limit r.made) TooMany _
    (told-refuse (not (eqb m (per * (r.made * r.made)))) WrongLength _ (told-shape r ys 0)))

pub active-numbered : (r : KronReducer) (m : ℕ) → Told (active_refusal r m)
unfolding active_refusal answered
active-numbered r m =
    told-refuse (ltb limit r.made) TooMany _
    (told-refuse (not (eqb m r.made)) WrongLength _
    (told-refuse (not (sound r)) BadRecord 0 refl))

-- of one removal that is not carried out, and of a list of them
told-tests : (active small finite : Bool) → Told (cond active (refuse small 12 (refuse finite 20 0)) 11)
unfolding answered
told-tests true small finite = told-refuse small SmallEntry _ (told-refuse finite ComputedNotFinite 0 refl)
told-tests false small finite = refl

told-removal : (s : State) (k : ℕ) → Told (removal_refusal s k)
unfolding removal_refusal
told-removal s k = told-tests (mem k s.active) _ (not (all_finite (of_removal s k)))

told-either : (b : Bool) (x y : ℕ) → Told x → Told y → Told (cond b x y)
told-either true x y t u = t
told-either false x y t u = u

told-list : (s : State) (ks : List ℕ) → Told (stopped_by s ks)
unfolding stopped_by answered
told-list s [] = refl
told-list s (k ∷ ks) = told-either (accepts s k) _ _ (told-list (remove s k) ks) (told-removal s k)

pub removals-numbered : (r : KronReducer) (ys : List Float) (ks : List ℕ) → Told (removals_refusal r ys ks)
unfolding removals_refusal input_refusal
removals-numbered r ys ks =
    told-then _ (stopped_by (state_of r ys) (rows_of r ks)) (told-given _ (present r ys) (told-shape r ys (length ks)))
    (told-list (state_of r ys) (rows_of r ks))

pub impedance-numbered : (r : KronReducer) (ys : List Float) (m : ℕ) (xs : List ℕ) (i j : ℕ) (n : ℕ) (Y : Matrix) (p q : ℕ)
    → Told (then_work (impedance_told (reading_refusal 4 r ys m) xs i j) Unlimited (steps_of_impedance n Y p q))
unfolding impedance_told answered
impedance-numbered r ys m xs i j n Y p q =
    told-work _ Unlimited (steps_of_impedance n Y p q)
    (told-then _ _ (reading-numbered 4 r ys m)
    (told-refuse (not (mem i xs)) NotActive _ (told-refuse (not (mem j xs)) NotActive 0 refl)))
