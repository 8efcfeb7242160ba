-- Spokes and ties written one after the other: what is still to be written, written over what stands, is the whole.
use Rattle.prelude.proofs.Prelude.{◌≡◌, refl, ap, ◌∙◌, Bool, true, false, cond, List, [], ◌∷◌, ◌++◌, ℕ, zero, suc, ◌+◌, ◌-◌, ◌*◌, ◌≤◌, ◌<◌, add-one, arith, length, get_or, take, drop, replicate, Float, append-nil, zero-add, suc-mul, set, length-append, length-drop, length-replicate, length-take-le, drop_of_length-le, sets, get_or-drop, take_at}
use native.Mathlib.Nat.{mul-sub, mul-one, mul-suc, le-mul_of_pos_right}
use lib.Seq.{drop_at, length-sets, sets-eq}
use Rattle.complex.specs.{Complex, entry, put, Matrix, entry_at, cneg}
use Rattle.complex.proofs.Matrices.{entry-part}
use Rattle.lists.specs.Buses.{up_to}
use Rattle.lists.proofs.Order.{length-up_to, get_or-up_to}
use Rattle.lists.proofs.Stores.{up_to-here, up_to-end}
use Rattle.rei_equivalent.specs.Rei.{Tie, spoke, spoke_parts, is_tie, row_ties, upper_ties, tie_ends, tie_parts, tie_room, all_ties}

-- ---- stores

module _ {ℓ} {A : Type ℓ} where
  -- two stores at place k
  sets-two : (l : List A) (k : ℕ) (x y : A) (vs : List A) → sets (set (set l (2 * k) x) (2 * k + 1) y) (2 * (k + 1)) vs ≡ sets l (2 * k) (x ∷ y ∷ vs)
  sets-two l k x y vs =
      let e : 2 * (k + 1) ≡ suc (suc (2 * k)) = omega arith in
      rw (e, add-one)

  sets-append : (l : List A) (i : ℕ) (vs ws : List A) → sets l i (vs ++ ws) ≡ sets (sets l i vs) (i + length vs) ws
  sets-append l i [] ws =
      let e : i + 0 ≡ i = omega arith in
      rw e
  sets-append l i (v ∷ vs) ws =
      let e : i + suc (length vs) ≡ suc i + length vs = omega arith in
      rw e (sets-append (set l i v) (suc i) vs ws)

  -- two parts are written one after the other
  pub two-parts : (xs ys out mid : List A) (k e : ℕ) → length xs ≡ k → e ≡ length out → length out ≡ length xs + length ys → mid ≡ xs ++ drop k out
      → take k mid ++ (ys ++ drop (e - k) (drop k mid)) ≡ xs ++ ys
  two-parts xs ys out mid k e h f g m =
      let r : length (drop k out) ≤ e - k = rw (length-drop k out, f) (omega arith) in
      rw (m, take_at xs (drop k out) k h, drop_at xs (drop k out) k h, drop_of_length-le (drop k out) {i = e - k} r, append-nil ys)

  -- the first part is written over what stands, and z to every place behind it
  pub then-cleared : (xs out mid : List A) (z : A) (k e : ℕ) → length xs ≡ k → e ≡ length out → k ≤ e → mid ≡ sets out 0 xs
      → take k mid ++ (replicate (length (take (e - k) (drop k mid))) z ++ drop (e - k) (drop k mid)) ≡ xs ++ replicate (e - k) z
  then-cleared xs out mid z k e h f g m =
      let w = ap length m ∙ length-sets out 0 xs in
      let d = length-drop k mid in
      let r : length (take (e - k) (drop k mid)) ≡ e - k = length-take-le (e - k) (drop k mid) (omega arith) in
      let q = length-replicate (e - k) z in
      rw r (two-parts xs (replicate (e - k) z) out mid k e h f (omega arith) (m ∙ sets-eq xs out 0 (omega arith) ∙ rw (zero-add, h)))

-- ---- spokes

pub spoke-step : (c : Float) (Y : Matrix) (n i : ℕ) (l : List Float) → i < n
    → sets (put l i (spoke c (Y i i))) (2 * (i + 1)) (spoke_parts c Y (drop (i + 1) (up_to n))) ≡ sets l (2 * i) (spoke_parts c Y (drop i (up_to n)))
unfolding spoke_parts put
spoke-step c Y n i l h = rw (up_to-here n i h) (sets-two l i (spoke c (Y i i)).re (spoke c (Y i i)).im (spoke_parts c Y (drop (i + 1) (up_to n))))

pub length-spoke_parts : (c : Float) (Y : Matrix) (is : List ℕ) → length (spoke_parts c Y is) ≡ 2 * length is
unfolding spoke_parts
length-spoke_parts c Y [] = refl
length-spoke_parts c Y (i ∷ is) = let e = length-spoke_parts c Y is in omega arith

-- ---- ties

-- a list of two numbers for each tie
pub record Flat {A : Type 0} (F : List Tie → List A) (f g : Tie → A) : Type 0 where
  pub none : F [] ≡ []
  pub more : (t : Tie) (ts : List Tie) → F (t ∷ ts) ≡ f t ∷ g t ∷ F ts

pub ends-flat : Flat tie_ends (λ t. t.first) (λ t. t.second)
unfolding tie_ends
ends-flat = record { none = refl; more = λ t ts. refl }

pub parts-flat : Flat tie_parts (λ t. t.admittance.re) (λ t. t.admittance.im)
unfolding tie_parts
parts-flat = record { none = refl; more = λ t ts. refl }

module _ {A : Type 0} {F : List Tie → List A} {f g : Tie → A} (flat : Flat F f g) where
  pub length-flat : (ts : List Tie) → length (F ts) ≡ 2 * length ts
  length-flat [] = ap length flat.none
  length-flat (t ∷ ts) = let e = length-flat ts in rw (flat.more t ts) (omega arith)

  flat_append : (ts us : List Tie) → F (ts ++ us) ≡ F ts ++ F us
  flat_append [] us = rw flat.none
  flat_append (t ∷ ts) us = rw (flat.more t (ts ++ us), flat.more t ts, flat_append ts us)

  -- a tie at place k where there is one, and the ties of a row from place k on
  pub write-one : (b : Bool) (t : Tie) (r : List Tie) (k : ℕ) (l : List A)
      → sets (cond b (set (set l (2 * k) (f t)) (2 * k + 1) (g t)) l) (2 * cond b (k + 1) k) (F r) ≡ sets l (2 * k) (F (cond b (t ∷ r) r))
  write-one true t r k l = rw (flat.more t r) (sets-two l k (f t) (g t) (F r))
  write-one false t r k l = refl

  pub write-row : (ts us : List Tie) (k : ℕ) (l : List A) → sets (sets l (2 * k) (F ts)) (2 * (k + length ts)) (F us) ≡ sets l (2 * k) (F (ts ++ us))
  write-row ts us k l =
      let e : 2 * (k + length ts) ≡ 2 * k + 2 * length ts = omega arith in
      rw (flat_append, sets-append, length-flat, e)

pub count-one : (b : Bool) (t : Tie) (r : List Tie) (k : ℕ) → cond b (k + 1) k + length r ≡ k + length (cond b (t ∷ r) r)
count-one true t r k = omega arith
count-one false t r k = refl

-- one row, from bus j on
module _ (buses : List ℕ) (ys : ℕ → Complex) (i n : ℕ) where
  abbrev pub tie_to : ℕ → Tie
  tie_to j = record { first = get_or buses i 0; second = get_or buses j 0; admittance = cneg (ys j) }

  abbrev pub left_in_row : ℕ → List Tie
  left_in_row j = row_ties buses ys i (drop j (up_to n))

  pub row_step : (j : ℕ) → j < n → left_in_row j ≡ cond (is_tie (ys j)) (tie_to j ∷ left_in_row (j + 1)) (left_in_row (j + 1))
  unfolding row_ties
  row_step j h = rw (up_to-here n j h)

  pub row_done : (j : ℕ) → n ≤ j → left_in_row j ≡ []
  unfolding row_ties
  row_done j h = rw (up_to-end n j h)

pub one_more : (b : Bool) (k : ℕ) → cond b (k + 1) k ≤ k + 1
one_more true k = omega arith
one_more false k = omega arith

-- at most one for each bus
pub few-ties : (buses : List ℕ) (ys : ℕ → Complex) (i : ℕ) (js : List ℕ) → length (row_ties buses ys i js) ≤ length js
unfolding row_ties
few-ties buses ys i [] = omega arith
few-ties buses ys i (j ∷ js) =
    let h = few-ties buses ys i js in
    let e = count-one (is_tie (ys j)) (tie_to buses ys i 0 j) (row_ties buses ys i js) 0 in
    omega (arith, one_more (is_tie (ys j)) 0)

-- the same entries make the same ties
row_ties-same : (buses : List ℕ) (ys zs : ℕ → Complex) (i : ℕ) (js : List ℕ) → ((k : ℕ) → k < length js → ys (get_or js k 0) ≡ zs (get_or js k 0))
    → row_ties buses ys i js ≡ row_ties buses zs i js
unfolding row_ties
row_ties-same buses ys zs i [] h = refl
row_ties-same buses ys zs i (j ∷ js) h =
    rw (h 0 (omega arith), row_ties-same buses ys zs i js (λ k l. h (suc k) (omega arith)))

-- a row as a part of the matrix
pub row-part : (buses : List ℕ) (n w a i k : ℕ) (y : List Float) → w ≡ 2 * n → a ≡ 2 * (i * n)
    → row_ties buses (entry (take w (drop a y))) i (drop k (up_to n)) ≡ row_ties buses (entry_at n y i) i (drop k (up_to n))
row-part buses n w a i k y e f =
    row_ties-same buses (entry (take w (drop a y))) (entry_at n y i) i (drop k (up_to n)) λ (q : ℕ) (h : q < length (drop k (up_to n))).
    let z = length-drop k (up_to n) in
    let u = length-up_to n in
    let b : k + q < n = omega arith in
    rw (get_or-drop k (up_to n) q 0, get_or-up_to n (k + q) 0 b, e, f) (entry-part n y i (k + q) b)

-- all rows, from bus i on
module _ (buses : List ℕ) (Y : Matrix) (n : ℕ) where
  abbrev pub left_in_all : ℕ → List Tie
  left_in_all i = upper_ties buses Y (drop i (up_to n))

  abbrev pub of_row : ℕ → List Tie
  of_row i = row_ties buses (Y i) i (drop (i + 1) (up_to n))

  pub all-step : (i : ℕ) → i < n → left_in_all i ≡ of_row i ++ left_in_all (i + 1)
  unfolding upper_ties
  all-step i h = rw (up_to-here n i h)

  pub all_done : (i : ℕ) → n ≤ i → left_in_all i ≡ []
  unfolding upper_ties
  all_done i h = rw (up_to-end n i h)

-- ---- room

pub room-is : (n : ℕ) → n * (n - 1) ≡ n * n - n
room-is n = mul-sub n n 1 ∙ ap (λ (k : ℕ). n * n - k) (mul-one n)

pub own_square : (n : ℕ) → n ≤ n * n
own_square zero = omega arith
own_square (suc n) = le-mul_of_pos_right (suc n) (omega arith)

-- one bus more has a tie with each of the others
pub room-step : (q : ℕ) → tie_room (suc q) ≡ 2 * q + tie_room q
unfolding tie_room
room-step q =
    let a = suc-mul q (suc q) in
    let b = mul-suc q q in
    let c = own_square q in
    rw (room-is (suc q), room-is q) (omega arith)

-- the ties of n buses fit their slices
pub upper-fit : (buses : List ℕ) (Y : Matrix) (is : List ℕ) → 2 * length (upper_ties buses Y is) ≤ tie_room (length is)
unfolding upper_ties
upper-fit buses Y [] = omega arith
upper-fit buses Y (i ∷ is) =
    let a = upper-fit buses Y is in
    let b = few-ties buses (Y i) i is in
    let c = room-step (length is) in
    let d = length-append (row_ties buses (Y i) i is) (upper_ties buses Y is) in
    omega arith

pub ties-fit : (n : ℕ) (ys : List Float) (buses : List ℕ) → 2 * length (all_ties n ys buses) ≤ tie_room n
unfolding all_ties
ties-fit n ys buses = rw length-up_to at (upper-fit buses (entry_at n ys) (up_to n))
