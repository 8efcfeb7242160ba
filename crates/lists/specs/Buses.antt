-- Lists of buses.
use Rattle.std.specs.Prelude.{ℕ, zero, suc, Bool, true, false, ◌||◌, ◌&&◌, cond, List, [], ◌∷◌, ◌++◌, map, T, eqb, ltb, Option}
use Rattle.std.specs.List.{list_any, list_all, position}

-- the buses of a matrix of n rows: 0, 1, .. n - 1
unfoldable pub up_to : ℕ → List ℕ
up_to zero = []
up_to (suc n) = up_to n ++ (n ∷ [])

abbrev pub mem : ℕ → List ℕ → Bool
mem k [] = false
mem k (x ∷ xs) = eqb k x || mem k xs

-- bus k is one of xs
infix 40 ◌is_one_of◌
abbrev pub ◌is_one_of◌ : ℕ → List ℕ → Type 0
k is_one_of xs = T (mem k xs)

-- xs without those in ks, in the old order
unfoldable pub others : List ℕ → List ℕ → List ℕ
others ks [] = []
others ks (x ∷ xs) = cond (mem x ks) (others ks xs) (x ∷ others ks xs)

-- the row of bus k where the buses xs, each told by row or by number, have the rows 0, 1, ..: the count of rows where it is none of them
unfoldable pub place : ℕ → List ℕ → ℕ
place k [] = 0
place k (x ∷ xs) = cond (eqb k x) 0 (suc (place k xs))

-- the same, or nothing
abbrev pub found_in : ℕ → List ℕ → Option ℕ
found_in k xs = position (λ (x : ℕ). eqb x k) xs

unfoldable pub rising : List ℕ → Bool
rising [] = true
rising (x ∷ []) = true
rising (x ∷ (y ∷ xs)) = ltb x y && rising (y ∷ xs)

abbrev pub all_below : ℕ → List ℕ → Bool
all_below n xs = list_all (λ (x : ℕ). ltb x n) xs

abbrev pub all_zero : List ℕ → Bool
all_zero xs = list_all (λ (x : ℕ). eqb x 0) xs

-- a number that stands twice in the list
unfoldable pub repeats : List ℕ → Bool
repeats [] = false
repeats (x ∷ xs) = mem x xs || repeats xs

-- the same of a list of any values, by what tells two of them equal
unfoldable pub repeats_by : {A : Type 0} → (A → A → Bool) → List A → Bool
repeats_by same [] = false
repeats_by same (x ∷ xs) = list_any (λ y. same y x) xs || repeats_by same xs

-- each of ks is one of xs
unfoldable pub within : List ℕ → List ℕ → Bool
within xs [] = true
within xs (k ∷ ks) = mem k xs && within xs ks

-- the rows of the buses numbered ks, where ns are the rows' numbers; a number that no row has becomes the count of rows
unfoldable pub rows_in : List ℕ → List ℕ → List ℕ
unfolding place
rows_in ns ks = map (λ (k : ℕ). place k ns) ks
