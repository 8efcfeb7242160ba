-- Walks along links: joined, turned round, cut at the first bus of a group, and written as the chains of the statement.
use Rattle.prelude.proofs.Prelude.{◌⊎◌, inl, inr, List, [], ◌∷◌, ℕ, ⊎_elim}
use Rattle.complex.specs.{Matrix}
use Rattle.lists.specs.Buses.{◌is_one_of◌}
use Rattle.lists.proofs.Buses.{in-or-out}
use Rattle.claims.specs.Chains.{Linked, Steps, Within, Chain, Into, Out}

abbrev pub Links : Type 1
Links = ℕ → ℕ → Type 0

-- A walk to bus b by one or more links, each from a row bus to a column bus, whose buses on the way are in R. It may meet a bus twice.
pub data Walk (L : Links) (R : List ℕ) (b : ℕ) : ℕ → Type 0 where
  last : {a : ℕ} → L a b → Walk L R b a
  via : {a k : ℕ} → L a k → k is_one_of R → Walk L R b k → Walk L R b a

pub join : {L : Links} {R : List ℕ} {k a b : ℕ} → Walk L R k a → k is_one_of R → Walk L R b k → Walk L R b a
join (last l) m w = via l m w
join (via l m' v) m w = via l m' (join v m w)

pub map-walk : {L M : Links} {R : List ℕ} {b a : ℕ} → ((i j : ℕ) → L i j → M i j) → Walk L R b a → Walk M R b a
map-walk {b} {a} f (last l) = last (f a b l)
map-walk {a = a} f (via {k = x} l m w) = via (f a x l) m (map-walk f w)

abbrev pub flip : Links → Links
flip L i j = L j i

turn : {L : Links} {R : List ℕ} {b a : ℕ} → Walk L R b a → Walk (flip L) R a b
turn (last l) = last l
turn (via l m w) = join (turn w) m (last l)

-- ---- as a list of the buses on the way

abbrev Listed : Matrix → List ℕ → ℕ → ℕ → Type 0
Listed Y R a b = (ks : List ℕ) × Within ks R × Steps Y a ks b

steps : (Y : Matrix) {R : List ℕ} {b a : ℕ} → Walk (Linked Y) R b a → Listed Y R a b
steps Y (last l) = ([], tt, l)
steps Y (via {k = x} l m w) = (x ∷ (steps Y w).0, (m, (steps Y w).1), (l, (steps Y w).2))

-- through one bus at least
pub chain : (Y : Matrix) {R : List ℕ} {a k b : ℕ} → Walk (Linked Y) R k a → k is_one_of R → Walk (Linked Y) R b k → Chain Y R a b
chain Y {k} (last l) m w = let t = steps Y w in (k, t.0, (m, t.1), (l, t.2))
chain Y (via {k = x} l m' v) m w = let t = steps Y (join v m w) in (x, t.0, (m', t.1), (l, t.2))

-- ---- into a group, and out of it

abbrev pub IntoBy : Links → List ℕ → List ℕ → ℕ → Type 0
IntoBy L R G a = (g : ℕ) × (g is_one_of G) × Walk L R g a

abbrev pub OutBy : Links → List ℕ → List ℕ → ℕ → Type 0
OutBy L R G b = (g : ℕ) × (g is_one_of G) × Walk L R b g

pub into-steps : (Y : Matrix) (R G : List ℕ) (a : ℕ) → IntoBy (Linked Y) R G a → Into Y R G a
into-steps Y R G a (g, m, w) = let t = steps Y w in (g, t.0, m, t.1, t.2)

pub out-steps : (Y : Matrix) (R G : List ℕ) (b : ℕ) → OutBy (Linked Y) R G b → Out Y R G b
out-steps Y R G b (g, m, w) = let t = steps Y w in (g, t.0, m, t.1, t.2)

abbrev pub Either : Links → Links → Links
Either L M i j = L i j ⊎ M i j

-- L and M link the same buses outside of G
abbrev pub SameLinks : (ℕ → Type 0) → List ℕ → Links → Links → Type 0
SameLinks Bus G L M = (i j : ℕ) → Bus i → Bus j → (i is_one_of G → ⊥) → (j is_one_of G → ⊥) → (M i j → L i j) × (L i j → M i j)

-- a walk by links of either into G, cut at the first bus of G, is a walk by one of them
module _ (Bus : ℕ → Type 0) (R G : List ℕ) (bus : (k : ℕ) → k is_one_of R → Bus k) where
  pub into_one : (L M : Links) → SameLinks Bus G L M → {g a : ℕ} → Bus a → (a is_one_of G → ⊥) → g is_one_of G → Walk (Either L M) R g a → IntoBy L R G a ⊎ IntoBy M R G a
  into_one L M alike {g} {a} here out h (last (inl l)) = inl (g, h, last l)
  into_one L M alike {g} {a} here out h (last (inr l)) = inr (g, h, last l)
  into_one L M alike {g} {a} here out h (via {k = x} l m w) = elim (in-or-out x G) [
    | inl y ↦ elim l [ inl u ↦ inl (x, y, last u) | inr u ↦ inr (x, y, last u) ]
    | inr y ↦ let s = alike a x here (bus x m) out y in elim (into_one L M alike (bus x m) y h w) [
      | inl (g, y, v) ↦ inl (g, y, via (⊎_elim (λ (u : L a x). u) s.0 l) m v)
      | inr (g, y, v) ↦ inr (g, y, via (⊎_elim s.1 (λ (u : M a x). u) l) m v)
    ]
  ]

  pub out_one : (L M : Links) → SameLinks Bus G L M → {b g : ℕ} → Bus b → (b is_one_of G → ⊥) → g is_one_of G → Walk (Either L M) R b g → OutBy L R G b ⊎ OutBy M R G b
  out_one L M alike here out h w =
      elim (into_one (flip L) (flip M) (λ (i j : ℕ). λ x y u v. alike j i y x v u) here out h (turn w)) [
        | inl (g, h, v) ↦ inl (g, h, turn v)
        | inr (g, h, v) ↦ inr (g, h, turn v)
      ]
