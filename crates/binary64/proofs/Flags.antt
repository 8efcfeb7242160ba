-- A flag carried through a list: whether all the numbers passed hold a test. Invariant and steps of the loops that carry one.
use Rattle.prelude.proofs.Prelude.{◌≡◌, refl, sym, ap, ◌∙◌, Bool, true, false, ◌&&◌, List, [], ◌∷◌, ℕ, suc, ◌+◌, ◌≤◌, ◌<◌, length, get_or, drop, Float, nan, add-one, drop-cons, drop_of_length-le}

-- with the first i passed: the flag and the rest say what the whole list does
abbrev pub Flagged : (List Float → Bool) → List Float → Bool → ℕ → Type 0
Flagged all s flag i = (i ≤ length s) × ((flag && all (drop i s)) ≡ all s)

and_assoc : (a b c : Bool) → ((a && b) && c) ≡ (a && (b && c))
and_assoc true b c = refl
and_assoc false b c = refl

and-true : (a : Bool) → a ≡ (a && true)
and-true true = refl
and-true false = refl

module _ (test : Float → Bool) (all : List Float → Bool) (more : (x : Float) (xs : List Float) → all (x ∷ xs) ≡ (test x && all xs)) where
  pub flag-next : (s : List Float) (flag next : Bool) (i : ℕ) → i < length s → next ≡ (flag && test (get_or s i nan)) → (flag && all (drop i s)) ≡ all s
      → (next && all (drop (i + 1) s)) ≡ all s
  flag-next s flag next i l e h =
      rw (e, add-one i)
      (and_assoc flag (test (get_or s i nan)) (all (drop (suc i) s)) ∙ ap (λ (b : Bool). flag && b) (sym (more (get_or s i nan) (drop (suc i) s)) ∙ ap all (sym (drop-cons s i nan l))) ∙ h)

pub flag-ended : (all : List Float → Bool) → all [] ≡ true → (s : List Float) (flag : Bool) (i : ℕ) → length s ≤ i → (flag && all (drop i s)) ≡ all s → flag ≡ all s
flag-ended all e s flag i l h = and-true flag ∙ ap (λ (b : Bool). flag && b) (sym (ap all (drop_of_length-le s l) ∙ e)) ∙ h

-- the flag of one more number
pub flag-kept : (flag last : Bool) → last ≡ true → flag ≡ (flag && last)
flag-kept true last h = sym h
flag-kept false last h = refl

pub flag-lost : (flag last : Bool) → last ≡ false → false ≡ (flag && last)
flag-lost true last h = sym h
flag-lost false last h = refl
