-- The loop over the rows of one column: the rows before row i have had their turn, the others are as they were, and the steps behind are told.
use Rattle.prelude.proofs.Prelude.{◌≡◌, refl, sym, ap, ◌∙◌, subst, Bool, true, false, ◌||◌, cond, List, [], ◌∷◌, ◌++◌, ℕ, suc, ◌+◌, ◌-◌, ◌*◌, ◌≤◌, ◌<◌, arith, eqb, length, drop, Float, eqb-true}
use Rattle.std.proofs.Common.{Ok, Err}
use Rattle.refusals.specs.declared.Refusal.TheVariants.{BeyondAllowance}
use Rattle.complex.specs.{Complex, csub, cmul, Matrix, entry, entry_at}
use Rattle.complex.proofs.FiniteEntries.{entries-slice, slice-entries}
use Rattle.lists.specs.Buses.{up_to}
use Rattle.lists.proofs.Stores.{up_to-here, up_to-end}
use Rattle.refusals.specs.Work.{Step, reduces, computing}
use Rattle.solver.specs.GaussJordan.{reduced}
use Rattle.solver.specs.Solving.{operations, skipped}
use Rattle.solver.specs.Steps.{workings, of_reducing, steps_of_row, steps_of_rows}
use Rattle.solver.specs.Inner.Work.{with_row, less_factor, Told}
use Rattle.solver.proofs.Passed.{RowsPassed, rows_none, rows_more}
use Rattle.solver.proofs.RowParts.{reduced-is, alone-is}
use Rattle.solver.proofs.FiniteWork.{reducing-tells, reducing-kept}
use Rattle.solver.proofs.Told.{Came, came-first, came-done, came-then, came-ended, told_none, told-then, told-numbers, told-reduces, told-exceeded}

-- what the rows is have to do
abbrev steps : ℕ → ℕ → List Float → List ℕ → List Step
steps w c first is = steps_of_rows operations workings (entry_at w first) c is (up_to w)

pub record Reducing (n w c allowed left i : ℕ) (first now : List Float) : Type 0 where
  pub most : i ≤ n
  pub full : length now ≡ 2 * (n * w)
  pub rows : RowsPassed w now (reduced operations c (entry_at w first)) (entry_at w first) i
  pub came : Came allowed (steps w c first (up_to n)) first now left (steps w c first (drop i (up_to n)))

pub reducing-first : (n w c allowed : ℕ) (first : List Float) → length first ≡ 2 * (n * w) → Reducing n w c allowed allowed 0 first first
reducing-first n w c allowed first full = record { most = omega arith; full = full; rows = rows_none w first _; came = came-first allowed (steps w c first (up_to n)) first }

pub reducing-same : {n w c allowed i : ℕ} {first : List Float} (left left' : ℕ) (now now' : List Float) → now ≡ now' → left ≡ left'
    → Reducing n w c allowed left' i first now' → Reducing n w c allowed left i first now
reducing-same left left' now now' e q r = rw (e, q) r

-- a row reduced: all numbers on the way are finite exactly where its new entries are
row_told : (m n w c i : ℕ) (C : Matrix) (now next : List Float) → length now ≡ 2 * (n * w) → length next ≡ 2 * (n * w) → i < n
    → ((r q : ℕ) → q < w → entry_at w next r q ≡ with_row i (λ (j : ℕ). csub (C i j) (cmul (C i c) (C c j))) (entry_at w now) r q)
    → ((q : ℕ) → q < w → entry_at w now i q ≡ C i q)
    → Told (suc m) (reduces ∷ computing (of_reducing operations workings C c i (up_to w))) now next (Ok m)
row_told m n w c i C now next full long h put held =
    told-then (suc m) (reduces ∷ []) now now m (computing (of_reducing operations workings C c i (up_to w))) next (Ok m) (told-reduces m now)
    (told-numbers m (of_reducing operations workings C c i (up_to w)) now next
    (λ x. let (a, k) = reducing-tells n w c i C (entry_at w now) (entry_at w next) h put held (slice-entries n w next long x) in (entries-slice n w now full a, k))
    (λ a k. entries-slice n w next long (reducing-kept n w c i C (entry_at w now) (entry_at w next) h put held (slice-entries n w now full a) k)))

module _ (n w c allowed left i : ℕ) (first now : List Float) (s : Reducing n w c allowed left i first now) (here : c < w) where
  -- whether row i is left alone can be read from the slice
  as_first : (b : Bool) → (eqb i c || skipped (entry_at w now i c)) ≡ b → (eqb i c || skipped (entry_at w first i c)) ≡ b
  as_first b t = ap (λ (x : Complex). eqb i c || skipped x) (sym (s.rows.ahead i (omega arith) c here)) ∙ t

  -- the steps to come begin with row i's
  next-steps : i < n → (b : Bool) → (eqb i c || skipped (entry_at w now i c)) ≡ b
      → steps w c first (drop i (up_to n))
      ≡ cond b [] (reduces ∷ computing (of_reducing operations workings (entry_at w first) c i (up_to w))) ++ steps w c first (drop (i + 1) (up_to n))
  unfolding steps_of_rows steps_of_row
  next-steps h b t =
      ap (λ (is : List ℕ). steps w c first is) (up_to-here n i h)
      ∙ ap (λ (x : Bool). cond x [] (reduces ∷ computing (of_reducing operations workings (entry_at w first) c i (up_to w))) ++ steps w c first (drop (i + 1) (up_to n))) (as_first b t)

  pub reducing-alone : i < n → (eqb i c || skipped (entry_at w now i c)) ≡ true → Reducing n w c allowed left (i + 1) first now
  unfolding with_row
  reducing-alone h t =
      record {
        most = omega arith;
        full = s.full;
        rows = rows_more w now now _ _ i (entry_at w now i) kept (λ (q : ℕ) (k : q < w). s.rows.ahead i (omega arith) q k ∙ alone-is c i (entry_at w first) (as_first true t) q) s.rows;
        came = came-then allowed left (steps w c first (up_to n)) (steps w c first (drop i (up_to n))) first now s.came [] (steps w c first (drop (i + 1) (up_to n))) now (next-steps h true t) left (told_none left now);
      }
    where
      kept : (r q : ℕ) → q < w → entry_at w now r q ≡ cond (eqb r i) (entry_at w now i q) (entry_at w now r q)
      kept r q k = pick (eqb r i) refl
        where
          pick : (b : Bool) → eqb r i ≡ b → entry_at w now r q ≡ cond b (entry_at w now i q) (entry_at w now r q)
          pick true e = ap (λ (m : ℕ). entry_at w now m q) (eqb-true r i e)
          pick false e = refl

  pub reducing-more : i < n → (eqb i c || skipped (entry_at w now i c)) ≡ false → (left ≡ 0 → ⊥) → (pivot next : List Float)
      → ((q : ℕ) → q < w → entry pivot q ≡ entry_at w first c q) → length next ≡ length now
      → ((r q : ℕ) → q < w → entry_at w next r q ≡ with_row i (less_factor c (entry pivot) (entry_at w now) i) (entry_at w now) r q)
      → Reducing n w c allowed (left - 1) (i + 1) first next
  unfolding with_row less_factor
  reducing-more h t some pivot next held same less =
      record {
        most = omega arith;
        full = same ∙ s.full;
        rows = rows_more w now next _ _ i (less_factor c (entry pivot) (entry_at w now) i) less
            (reduced-is w c (entry pivot) (entry_at w first) held (entry_at w now) i here (s.rows.ahead i (omega arith)) (as_first false t)) s.rows;
        came = came-then allowed left (steps w c first (up_to n)) (steps w c first (drop i (up_to n))) first now s.came
            (reduces ∷ computing (of_reducing operations workings (entry_at w first) c i (up_to w))) (steps w c first (drop (i + 1) (up_to n))) next (next-steps h false t) (left - 1) told;
      }
    where
      row : (q : ℕ) → q < w → entry_at w now i q ≡ entry_at w first i q
      row = s.rows.ahead i (omega arith)

      -- the new row, by what the slice held at first
      put : (r q : ℕ) → q < w → entry_at w next r q
          ≡ cond (eqb r i) (csub (entry_at w first i q) (cmul (entry_at w first i c) (entry_at w first c q))) (entry_at w now r q)
      put r q k =
          let a = row q k in
          let f = row c here in
          let p = held q k in
          let l = less r q k in
          cc

      told : Told left (reduces ∷ computing (of_reducing operations workings (entry_at w first) c i (up_to w))) now next (Ok (left - 1))
      told =
          let one : suc (left - 1) ≡ left = omega (arith, some) in
          subst (λ (m : ℕ). Told m (reduces ∷ computing (of_reducing operations workings (entry_at w first) c i (up_to w))) now next (Ok (left - 1))) one
          (row_told (left - 1) n w c i (entry_at w first) now next s.full (same ∙ s.full) h put row)

  pub reducing-exceeded : i < n → (eqb i c || skipped (entry_at w now i c)) ≡ false → left ≡ 0 → Told allowed (steps w c first (up_to n)) first now (Err BeyondAllowance)
  reducing-exceeded h t e =
      came-ended allowed left (steps w c first (up_to n)) (steps w c first (drop i (up_to n))) first now s.came
      (reduces ∷ computing (of_reducing operations workings (entry_at w first) c i (up_to w))) (steps w c first (drop (i + 1) (up_to n))) now (next-steps h false t) (Err BeyondAllowance) refl
      (subst (λ (m : ℕ). Told m (reduces ∷ computing (of_reducing operations workings (entry_at w first) c i (up_to w))) now now (Err BeyondAllowance)) (sym e) (told-exceeded _ now))

  pub reducing-end : n ≤ i → Told allowed (steps w c first (up_to n)) first now (Ok left)
      × ((r q : ℕ) → r < n → q < w → entry_at w now r q ≡ reduced operations c (entry_at w first) r q)
  unfolding steps_of_rows
  reducing-end h =
      let e : i ≡ n = omega (arith, s.most) in (
        came-done allowed left (steps w c first (up_to n)) (steps w c first (drop i (up_to n))) first now s.came (ap (λ (is : List ℕ). steps w c first is) (up_to-end n i h)),
        λ (r q : ℕ) (x : r < n) (y : q < w). s.rows.behind r (omega arith) q y,
      )
