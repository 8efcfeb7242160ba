-- A loop that passes the indices 0, 1, .. in turn, storing at each: every index behind holds the new, every index ahead the old.
-- For single numbers, complex entries, and rows.
use Rattle.prelude.proofs.Prelude.{◌≡◌, refl, sym, ap, ◌∙◌, subst, Bool, cond, List, ℕ, ◌+◌, ◌*◌, ◌≤◌, ◌<◌, arith, length, get_or, Float, nan, ⊎_elim, eq-eqb, ne_eqb, eq-or-lt_of_le, set, get_or-set_same, get_or-set_other}
use Rattle.complex.specs.{Complex, entry, put, Matrix, entry_at}
use Rattle.complex.proofs.Entries.{length-put, entry-put-same, entry-put-other}
use Rattle.solver.specs.Inner.Work.{with_row}

pub record Passed (i : ℕ) (New Old : ℕ → Type 0) : Type 0 where
  pub behind : (k : ℕ) → k < i → New k
  pub ahead : (k : ℕ) → i ≤ k → Old k

-- index i, or one before it
pub up_to : (i : ℕ) (P : ℕ → Type 0) → P i → ((k : ℕ) → k < i → P k) → (k : ℕ) → k < i + 1 → P k
up_to i P here before k l = ⊎_elim (λ e. subst P (sym e) here) (λ l'. before k l') (eq-or-lt_of_le {n = k} {m = i} (omega arith))

-- a turn at i makes i new, and leaves every other index as it was
turn : (i : ℕ) (New Old New' Old' : ℕ → Type 0) → Passed i New Old → New' i
    → ((k : ℕ) → (k ≡ i → ⊥) → New k → New' k) → ((k : ℕ) → (k ≡ i → ⊥) → Old k → Old' k) → Passed (i + 1) New' Old'
turn i New Old New' Old' p here new old =
    record {
      behind = up_to i New' here (λ (k : ℕ) (l : k < i). new k (λ (e : k ≡ i). omega arith) (p.behind k l));
      ahead = λ (k : ℕ) (l : i + 1 ≤ k). old k (λ (e : k ≡ i). omega arith) (p.ahead k (omega arith));
    }

-- ---- numbers

abbrev pub Stored : List Float → (ℕ → Float) → (ℕ → Float) → ℕ → Type 0
Stored xs new old i = Passed i (λ (k : ℕ). get_or xs k nan ≡ new k) (λ (k : ℕ). get_or xs k nan ≡ old k)

pub stored-none : (xs : List Float) (new : ℕ → Float) → Stored xs new (λ (k : ℕ). get_or xs k nan) 0
stored-none xs new = record { behind = λ (k : ℕ) (l : k < 0). absurd (omega arith); ahead = λ (k : ℕ) (l : 0 ≤ k). refl }

pub stored_more : (xs : List Float) (new old : ℕ → Float) (i : ℕ) (v : Float) → i < length xs → v ≡ new i → Stored xs new old i → Stored (set xs i v) new old (i + 1)
stored_more xs new old i v h e p =
    turn i (λ (k : ℕ). get_or xs k nan ≡ new k) (λ (k : ℕ). get_or xs k nan ≡ old k) (λ (k : ℕ). get_or (set xs i v) k nan ≡ new k) (λ (k : ℕ). get_or (set xs i v) k nan ≡ old k) p
    (get_or-set_same xs i v nan h ∙ e)
    (λ (k : ℕ) (n : k ≡ i → ⊥) (q : get_or xs k nan ≡ new k). get_or-set_other xs i k v nan n ∙ q)
    (λ (k : ℕ) (n : k ≡ i → ⊥) (q : get_or xs k nan ≡ old k). get_or-set_other xs i k v nan n ∙ q)

-- ---- complex entries

abbrev pub Put : List Float → (ℕ → Complex) → (ℕ → Complex) → ℕ → Type 0
Put ys new old i = Passed i (λ (k : ℕ). entry ys k ≡ new k) (λ (k : ℕ). entry ys k ≡ old k)

pub put-none : (ys : List Float) (new : ℕ → Complex) → Put ys new (entry ys) 0
put-none ys new = record { behind = λ (k : ℕ) (l : k < 0). absurd (omega arith); ahead = λ (k : ℕ) (l : 0 ≤ k). refl }

pub put-more : (ys : List Float) (new old : ℕ → Complex) (i : ℕ) (v : Complex) → 2 * i + 1 < length ys → v ≡ new i → Put ys new old i → Put (put ys i v) new old (i + 1)
put-more ys new old i v h e p =
    turn i (λ (k : ℕ). entry ys k ≡ new k) (λ (k : ℕ). entry ys k ≡ old k) (λ (k : ℕ). entry (put ys i v) k ≡ new k) (λ (k : ℕ). entry (put ys i v) k ≡ old k) p
    (entry-put-same ys i v h ∙ e)
    (λ (k : ℕ) (n : k ≡ i → ⊥) (q : entry ys k ≡ new k). entry-put-other ys i v k n ∙ q)
    (λ (k : ℕ) (n : k ≡ i → ⊥) (q : entry ys k ≡ old k). entry-put-other ys i v k n ∙ q)

-- each entry becomes f of its place and what it was
abbrev pub Mapped : (ℕ → Complex → Complex) → List Float → List Float → ℕ → Type 0
Mapped f ys₀ ys i = Put ys (λ (k : ℕ). f k (entry ys₀ k)) (entry ys₀) i

pub mapped_at : (f : ℕ → Complex → Complex) (ys₀ ys ys' : List Float) (i : ℕ) → 2 * i + 1 < length ys → Mapped f ys₀ ys i → ys' ≡ put ys i (f i (entry ys i))
    → (length ys' ≡ length ys) × Mapped f ys₀ ys' (i + 1)
mapped_at f ys₀ ys ys' i h p e =
    let same : entry ys i ≡ entry ys₀ i = p.ahead i (omega arith) in (
      ap length e ∙ length-put ys i (f i (entry ys i)),
      subst (λ (zs : List Float). Mapped f ys₀ zs (i + 1)) (sym e)
          (put-more ys (λ (k : ℕ). f k (entry ys₀ k)) (entry ys₀) i (f i (entry ys i)) h (ap (f i) same) p),
    )

pub mapped-more : (f : ℕ → Complex → Complex) (ys₀ ys ys' : List Float) (w i : ℕ) → i < w → length ys ≡ 2 * w → Mapped f ys₀ ys i → ys' ≡ put ys i (f i (entry ys i))
    → (i + 1 ≤ w) × (length ys' ≡ 2 * w) × Mapped f ys₀ ys' (i + 1)
mapped-more f ys₀ ys ys' w i h l p e =
    let more = mapped_at f ys₀ ys ys' i (omega arith) p e in
    (omega arith, more.0 ∙ l, more.1)

-- ---- rows of w entries

abbrev pub RowsPassed : ℕ → List Float → Matrix → Matrix → ℕ → Type 0
RowsPassed w ys new old i = Passed i (λ (r : ℕ). (q : ℕ) → q < w → entry_at w ys r q ≡ new r q) (λ (r : ℕ). (q : ℕ) → q < w → entry_at w ys r q ≡ old r q)

pub rows_none : (w : ℕ) (ys : List Float) (new : Matrix) → RowsPassed w ys new (entry_at w ys) 0
rows_none w ys new = record { behind = λ (k : ℕ) (l : k < 0). absurd (omega arith); ahead = λ (k : ℕ) (l : 0 ≤ k) (q : ℕ) (h : q < w). refl }

-- row i became f
pub rows_more : (w : ℕ) (ys ys' : List Float) (new old : Matrix) (i : ℕ) (f : ℕ → Complex)
    → ((r q : ℕ) → q < w → entry_at w ys' r q ≡ with_row i f (entry_at w ys) r q) → ((q : ℕ) → q < w → f q ≡ new i q)
    → RowsPassed w ys new old i → RowsPassed w ys' new old (i + 1)
unfolding with_row
rows_more w ys ys' new old i f h e p =
    turn i
    (λ (r : ℕ). (q : ℕ) → q < w → entry_at w ys r q ≡ new r q) (λ (r : ℕ). (q : ℕ) → q < w → entry_at w ys r q ≡ old r q)
    (λ (r : ℕ). (q : ℕ) → q < w → entry_at w ys' r q ≡ new r q) (λ (r : ℕ). (q : ℕ) → q < w → entry_at w ys' r q ≡ old r q) p
    (λ (q : ℕ) (k : q < w). h i q k ∙ ap (λ (b : Bool). cond b (f q) (entry_at w ys i q)) (eq-eqb i i refl) ∙ e q k)
    (λ (r : ℕ) (n : r ≡ i → ⊥) (g : (q : ℕ) → q < w → entry_at w ys r q ≡ new r q) (q : ℕ) (k : q < w).
    h r q k ∙ ap (λ (b : Bool). cond b (f q) (entry_at w ys r q)) (ne_eqb r i n) ∙ g q k)
    (λ (r : ℕ) (n : r ≡ i → ⊥) (g : (q : ℕ) → q < w → entry_at w ys r q ≡ old r q) (q : ℕ) (k : q < w).
    h r q k ∙ ap (λ (b : Bool). cond b (f q) (entry_at w ys r q)) (ne_eqb r i n) ∙ g q k)
