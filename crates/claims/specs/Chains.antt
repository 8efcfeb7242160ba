-- Chains of non-zero entries between buses.
use Rattle.std.specs.Prelude.{ℕ, ◌<◌, List, [], ◌∷◌}
use Rattle.complex.specs.Matrices.{Matrix}
use Rattle.complex.specs.Values.{◌≈◌, NonZero}
use Rattle.lists.specs.Buses.{◌is_one_of◌}

-- the entry from row bus i to column bus j is not zero
abbrev pub Linked : Matrix → ℕ → ℕ → Type 0
Linked Y i j = NonZero (Y i j)

-- from a to b along non-zero entries, each from its row bus to its column bus, by way of the buses ks in this order; a bus may stand there
-- twice, and b may be a
abbrev pub Steps : Matrix → ℕ → List ℕ → ℕ → Type 0
Steps Y a [] b = Linked Y a b
Steps Y a (k ∷ ks) b = Linked Y a k × Steps Y k ks b

-- each of ks is one of R
abbrev pub Within : List ℕ → List ℕ → Type 0
Within [] R = Unit {0}
Within (k ∷ ks) R = (k is_one_of R) × Within ks R

-- a "chain" from a to b through buses of R, at least one, and no others
abbrev pub Chain : Matrix → List ℕ → ℕ → ℕ → Type 0
Chain Y R a b = (k : ℕ) × (ks : List ℕ) × Within (k ∷ ks) R × Steps Y a (k ∷ ks) b

-- a chain "into" the group G: from a to a bus of G, with only buses of R between; one entry is already a chain
abbrev pub Into : Matrix → List ℕ → List ℕ → ℕ → Type 0
Into Y R G a = (g : ℕ) × (ks : List ℕ) × (g is_one_of G) × Within ks R × Steps Y a ks g

-- a chain "out of" the group G: from a bus of G to b, with only buses of R between
abbrev pub Out : Matrix → List ℕ → List ℕ → ℕ → Type 0
Out Y R G b = (g : ℕ) × (ks : List ℕ) × (g is_one_of G) × Within ks R × Steps Y g ks b

-- two matrices of n buses agree in each entry with neither end in the group
abbrev pub SameOutside : ℕ → Matrix → Matrix → List ℕ → Type 0
SameOutside n Y Y' G = (i j : ℕ) → i < n → j < n → (i is_one_of G → ⊥) → (j is_one_of G → ⊥) → Y i j ≈ Y' i j
