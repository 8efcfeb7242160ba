-- Where the removal of a list of buses by Kron's formula changes an entry, and what the entry can depend on.
use Rattle.prelude.proofs.Prelude.{sym, subst, ◌⊎◌, inl, inr, List, [], ◌∷◌, ℕ, ◌<◌, T}
use mathlib.Core.Logic.{⊎_map}
use Rattle.complex.specs.{Complex, Matrix, ◌≈◌, NonZero}
use Rattle.lists.specs.Buses.{up_to, ◌is_one_of◌, others}
use Rattle.binary64.specs.Values.{all_finite}
use Rattle.complex.proofs.SameValue.{Number, ◌≋◌, ≋-refl, ≋-sym, ≋-trans, ≋→≈, ≈→≋, Null, nulls, decide, nonzero-of}
use Rattle.kron_reduction.specs.Kron.{kron, State, start, remove, accepts, eliminate, of_removals}
use Rattle.lists.proofs.Buses.{in_head, in_tail, in-cases, in-or-out, stays, below-up_to}
use Rattle.kron_reduction.proofs.States.{accepted-active, accepted-big, Accepted, eliminate-active}
use Rattle.claims.specs.Chains.{Linked, Chain, Into, Out, SameOutside}
use Rattle.claims.proofs.Formula.{Ready, kron-stays, kron-cong, kron-number}
use Rattle.claims.proofs.Walks.{Links, Walk, last, join, map-walk, chain, IntoBy, OutBy, into-steps, out-steps, Either, SameLinks, into_one, out_one}
use Rattle.claims.proofs.Computed.{FiniteRemoval, FiniteRemovals, of-removals}

-- ---- the buses

-- what is active at the end was active before, and was not removed
survives : (s : State) (ks : List ℕ) (a : ℕ) → a is_one_of (eliminate s ks).active → (a is_one_of s.active) × (a is_one_of ks → ⊥)
survives s ks a h = stays a ks s.active (subst (λ (l : List ℕ). a is_one_of l) (eliminate-active s ks) h)

-- what is removed was active
was-active : (s : State) (ks : List ℕ) (a : ℕ) → Accepted s ks → a is_one_of ks → a is_one_of s.active
was-active s [] a h t = absurd t
was-active s (k ∷ ks) a h t = elim (in-cases a k ks t) [
  | inl p ↦ subst (λ (z : ℕ). z is_one_of s.active) (sym p) (accepted-active s k h.0)
  | inr u ↦ (stays a (k ∷ []) s.active (was-active (remove s k) ks a h.1 u)).0
]

-- ---- a removal

-- every entry between active buses is a finite number of binary64
abbrev Good : State → Type 0
Good s = (i j : ℕ) → i is_one_of s.active → j is_one_of s.active → Number (s.entries i j)

ready : (s : State) (k : ℕ) → Good s → T (accepts s k) → FiniteRemoval s k → (i j : ℕ) → i is_one_of (remove s k).active → j is_one_of (remove s k).active → Ready k s.entries i j
ready s k good ok finite i j x y =
    let x' = (stays i (k ∷ []) s.active x).0 in
    let y' = (stays j (k ∷ []) s.active y).0 in
    let z = accepted-active s k ok in
    record {
      entry = good i j x' y';
      column = good i k x' z;
      row = good k j z y';
      product = (finite.pairs i j x y).product;
      divisor = record { number = good k k z z; sum = finite.divisor; big = accepted-big s k ok };
    }

-- a zero factor, or two that are not
abbrev Factors : Complex → Complex → Type 0
Factors a b = (Null a ⊎ Null b) ⊎ (NonZero a × NonZero b)

factors : (a b : Complex) → Factors a b
factors a b = elim (decide a) [
  | inl z ↦ inl (inl z)
  | inr n ↦ elim (decide b) [ inl z ↦ inl (inr z) | inr m ↦ inr (n, m) ]
]

-- ---- one matrix: an entry has its old value, or a walk leads from its row bus to its column bus through a removed one

module _ (Y : Matrix) (R : List ℕ) where
  abbrev Through : ℕ → ℕ → Type 0
  Through i j = (k : ℕ) × Walk (Linked Y) R k i × (k is_one_of R) × Walk (Linked Y) R j k

  abbrev Old : State → Type 0
  Old s = (i j : ℕ) → i is_one_of s.active → j is_one_of s.active → (s.entries i j ≋ Y i j) ⊎ Through i j

  -- a state on the way, with the buses ks still to be removed
  record Run (s : State) (ks : List ℕ) : Type 0 where
    good : Good s
    old : Old s
    ok : Accepted s ks
    finite : FiniteRemovals s ks
    listed : (k : ℕ) → k is_one_of ks → k is_one_of R

  walk_of : {c : Complex} {i j : ℕ} → (c ≋ Y i j) ⊎ Through i j → NonZero c → Walk (Linked Y) R j i
  walk_of {i} {j} (inl p) n = let link : Linked Y i j = nonzero-of (≋-sym p) n in last link
  walk_of (inr (k, v, m, w)) n = join v m w

  first : {s : State} {k : ℕ} {ks : List ℕ} → Run s (k ∷ ks) → k is_one_of R
  first {k} {ks} run = run.listed k (in_head k ks)

  old-step : {s : State} {k : ℕ} {ks : List ℕ} → Run s (k ∷ ks) → Old (remove s k)
  old-step {s} {k} run i j x y =
      let M = s.entries in
      let x' = (stays i (k ∷ []) s.active x).0 in
      let y' = (stays j (k ∷ []) s.active y).0 in
      let z = accepted-active s k run.ok.0 in
      elim (factors (M i k) (M k j)) [
        | inl n ↦ elim (run.old i j x' y') [ inl p ↦ inl (≋-trans (kron-stays k M i j (ready s k run.good run.ok.0 run.finite.0 i j x y) n) p) | inr c ↦ inr c ]
        | inr (n, n') ↦ inr (k, walk_of (run.old i k x' z) n, first run, walk_of (run.old k j z y') n')
      ]

  next : {s : State} {k : ℕ} {ks : List ℕ} → Run s (k ∷ ks) → Run (remove s k) ks
  next {s} {k} {ks} run = record {
    good = λ (i j : ℕ). λ x y. kron-number k s.entries i j (run.finite.0.pairs i j x y).entry;
    old = old-step run;
    ok = run.ok.1;
    finite = run.finite.1;
    listed = λ (x : ℕ) (h : x is_one_of ks). run.listed x (in_tail x k ks h);
  }

  end : (s : State) (ks : List ℕ) → Run s ks → Run (eliminate s ks) []
  unfolding eliminate
  end s [] run = run
  end s (k ∷ ks) run = end (remove s k) ks (next run)

-- ---- two matrices: an entry has the same value in both, or it has a walk into the group before it and one out of the group behind it

module _ (Y Y' : Matrix) (R G : List ℕ) where
  abbrev LinkedIn : Links
  LinkedIn = Either (Linked Y) (Linked Y')

  abbrev Before : ℕ → Type 0
  Before i = (i is_one_of G) ⊎ IntoBy LinkedIn R G i

  abbrev After : ℕ → Type 0
  After j = (j is_one_of G) ⊎ OutBy LinkedIn R G j

  before : {i k : ℕ} → Walk LinkedIn R k i → k is_one_of R → Before k → Before i
  before {k} w m (inl h) = inr (k, h, w)
  before w m (inr (g, h, v)) = inr (g, h, join w m v)

  after : {k j : ℕ} → Walk LinkedIn R j k → k is_one_of R → After k → After j
  after {k} w m (inl h) = inr (k, h, w)
  after w m (inr (g, h, v)) = inr (g, h, join v m w)

  in-first : {a b : ℕ} → Walk (Linked Y) R b a → Walk LinkedIn R b a
  in-first = map-walk (λ (a b : ℕ) (l : Linked Y a b). inl l)

  in-second : {a b : ℕ} → Walk (Linked Y') R b a → Walk LinkedIn R b a
  in-second = map-walk (λ (a b : ℕ) (l : Linked Y' a b). inr l)

  abbrev Same : Matrix → Matrix → ℕ → ℕ → Type 0
  Same M M' i j = (M i j ≋ M' i j) ⊎ (Before i × After j)

  -- where k has a walk from i and a walk to j
  same-linked : (k : ℕ) (M M' : Matrix) (i j : ℕ) → k is_one_of R → Ready k M i j → Ready k M' i j → Walk LinkedIn R k i → Walk LinkedIn R j k
      → M i j ≋ M' i j → Same M M' i k → Same M M' k j → Same M M' k k → Same (kron k M) (kron k M') i j
  same-linked k M M' i j m r r' v w p (inr (x, y)) b c = inr (x, after w m y)
  same-linked k M M' i j m r r' v w p (inl a) (inr (x, y)) c = inr (before v m x, y)
  same-linked k M M' i j m r r' v w p (inl a) (inl b) (inr (x, y)) = inr (before v m x, after w m y)
  same-linked k M M' i j m r r' v w p (inl a) (inl b) (inl c) = inl (kron-cong k M M' i j r r' p a b c)

  abbrev at : List ℕ → Matrix → State
  at act M = record { active = act; entries = M }

  abbrev AllSame : List ℕ → Matrix → Matrix → Type 0
  AllSame act M M' = (i j : ℕ) → i is_one_of act → j is_one_of act → Same M M' i j

  same_step : {act : List ℕ} {M M' : Matrix} {k : ℕ} {ks : List ℕ} → Run Y R (at act M) (k ∷ ks) → Run Y' R (at act M') (k ∷ ks) → AllSame act M M'
      → AllSame (others (k ∷ []) act) (kron k M) (kron k M')
  same_step {act} {M} {M'} {k} run run' same i j x y =
      let x' = (stays i (k ∷ []) act x).0 in
      let y' = (stays j (k ∷ []) act y).0 in
      let z = accepted-active (at act M) k run.ok.0 in
      let r = ready (at act M) k run.good run.ok.0 run.finite.0 i j x y in
      let r' = ready (at act M') k run'.good run'.ok.0 run'.finite.0 i j x y in
      let linked : Walk LinkedIn R k i → Walk LinkedIn R j k → M i j ≋ M' i j → Same (kron k M) (kron k M') i j =
      λ v w p. same-linked k M M' i j (first Y R run) r r' v w p (same i k x' z) (same k j z y') (same k k z z) in
      elim (same i j x' y') [
        | inr h ↦ inr h
        | inl p ↦ elim (factors (M i k) (M k j)) [
          | inr (n, o) ↦ linked (in-first (walk_of Y R (run.old i k x' z) n)) (in-first (walk_of Y R (run.old k j z y') o)) p
          | inl n ↦ elim (factors (M' i k) (M' k j)) [
            | inl n' ↦ inl (≋-trans (kron-stays k M i j r n) (≋-trans p (≋-sym (kron-stays k M' i j r' n'))))
            | inr (n', o') ↦ linked (in-second (walk_of Y' R (run'.old i k x' z) n')) (in-second (walk_of Y' R (run'.old k j z y') o')) p
          ]
        ]
      ]

  same_end : (act : List ℕ) (M M' : Matrix) (ks : List ℕ) → Run Y R (at act M) ks → Run Y' R (at act M') ks → AllSame act M M'
      → AllSame (eliminate (at act M) ks).active (eliminate (at act M) ks).entries (eliminate (at act M') ks).entries
  unfolding eliminate
  same_end act M M' [] run run' same = same
  same_end act M M' (k ∷ ks) run run' same = same_end (others (k ∷ []) act) (kron k M) (kron k M') ks (next Y R run) (next Y' R run') (same_step run run' same)

-- ---- a matrix of n buses, and the buses R that are removed from it

pub record Carried (n : ℕ) (Y : Matrix) (R : List ℕ) : Type 0 where
  pub given : (i j : ℕ) → i < n → j < n → Number (Y i j)
  pub accepted : Accepted (start n Y) R
  pub computed : T (all_finite (of_removals (start n Y) R))

abbrev pub after-all : ℕ → Matrix → List ℕ → State
after-all n Y R = eliminate (start n Y) R

begin : (n : ℕ) (Y : Matrix) (R : List ℕ) → Carried n Y R → Run Y R (start n Y) R
begin n Y R h = record {
  good = λ (i j : ℕ). λ x y. h.given i j (below-up_to n i x) (below-up_to n j y);
  old = λ (i j : ℕ). λ x y. inl ≋-refl;
  ok = h.accepted;
  finite = of-removals (start n Y) R h.computed;
  listed = λ (k : ℕ) (m : k is_one_of R). m;
}

-- (1) an entry between kept buses has its old value, or there is a chain
pub old-or-chain : (n : ℕ) (Y : Matrix) (R : List ℕ) → Carried n Y R → (a b : ℕ) → a is_one_of (after-all n Y R).active → b is_one_of (after-all n Y R).active
    → ((after-all n Y R).entries a b ≈ Y a b) ⊎ Chain Y R a b
old-or-chain n Y R h a b x y =
    let done = end Y R (start n Y) R (begin n Y R h) in
    elim (done.old a b x y) [ inl p ↦ inl (≋→≈ (done.good a b x y).0 p) | inr (k, v, m, w) ↦ inr (chain Y v m w) ]

module _ (n : ℕ) (Y Y' : Matrix) (G : List ℕ)
    (number : (i j : ℕ) → i < n → j < n → Number (Y i j)) (number' : (i j : ℕ) → i < n → j < n → Number (Y' i j)) (outside : SameOutside n Y Y' G) where
  same-outside : (i j : ℕ) → i < n → j < n → (i is_one_of G → ⊥) → (j is_one_of G → ⊥) → Y i j ≋ Y' i j
  same-outside i j x y o o' = ≈→≋ (number i j x y) (number' i j x y) (outside i j x y (search o) (search o'))

  alike : SameLinks (λ (i : ℕ). i < n) G (Linked Y) (Linked Y')
  alike i j x y o o' = (nonzero-of (same-outside i j x y o o'), nonzero-of (≋-sym (same-outside i j x y o o')))

  same-begin : (R : List ℕ) → AllSame Y Y' R G (up_to n) Y Y'
  same-begin R i j x y =
      let touch : (Linked Y i j ⊎ Linked Y' i j → Before Y Y' R G i × After Y Y' R G j) → Same Y Y' R G Y Y' i j =
      λ f. elim (decide (Y i j)) [
        | inr l ↦ inr (f (inl l))
        | inl z ↦ elim (decide (Y' i j)) [ inr l ↦ inr (f (inr l)) | inl z' ↦ inl (nulls z z') ]
      ] in
      elim (in-or-out i G) [
        | inl g ↦ touch (λ l. (inl g, inr (i, g, last l)))
        | inr o ↦ elim (in-or-out j G) [
          | inl g ↦ touch (λ l. (inr (j, g, last l), inl g))
          | inr o' ↦ inl (same-outside i j (below-up_to n i x) (below-up_to n j y) o o')
        ]
      ]

-- (2) in two matrices that differ only at a group of removed buses, an entry between kept buses has one value,
-- or in one of them its row bus has a chain into the group, and in one of them its column bus has one out of it
pub same-or-chains : (n : ℕ) (Y Y' : Matrix) (R G : List ℕ) → Carried n Y R → Carried n Y' R → ((k : ℕ) → k is_one_of G → k is_one_of R) → SameOutside n Y Y' G
    → (a b : ℕ) → a is_one_of (after-all n Y R).active → b is_one_of (after-all n Y R).active
    → ((after-all n Y R).entries a b ≈ (after-all n Y' R).entries a b) ⊎ ((Into Y R G a ⊎ Into Y' R G a) × (Out Y R G b ⊎ Out Y' R G b))
same-or-chains n Y Y' R G h h' inside outside a b x y =
    let start-in : (c : ℕ) → c is_one_of (after-all n Y R).active → c < n = λ c z. below-up_to n c (survives (start n Y) R c z).0 in
    let away : (c : ℕ) → c is_one_of (after-all n Y R).active → c is_one_of G → ⊥ = λ c z g. (survives (start n Y) R c z).1 (inside c g) in
    let removed : (k : ℕ) → k is_one_of R → k < n = λ k m. below-up_to n k (was-active (start n Y) R k h.accepted m) in
    let links = alike n Y Y' G h.given h'.given outside in
    let into : Before Y Y' R G a → Into Y R G a ⊎ Into Y' R G a = λ u. elim u [
      | inl g ↦ absurd (away a x g)
      | inr (g, m, w) ↦ ⊎_map (into-steps Y R G a) (into-steps Y' R G a)
          (into_one (λ (i : ℕ). i < n) R G removed (Linked Y) (Linked Y') links (start-in a x) (away a x) m w)
    ] in
    let out_of : After Y Y' R G b → Out Y R G b ⊎ Out Y' R G b = λ u. elim u [
      | inl g ↦ absurd (away b y g)
      | inr (g, m, w) ↦ ⊎_map (out-steps Y R G b) (out-steps Y' R G b)
          (out_one (λ (i : ℕ). i < n) R G removed (Linked Y) (Linked Y') links (start-in b y) (away b y) m w)
    ] in
    elim (same_end Y Y' R G (up_to n) Y Y' R (begin n Y R h) (begin n Y' R h') (same-begin n Y Y' G h.given h'.given outside R) a b x y) [
      | inl p ↦ inl (≋→≈ ((end Y R (start n Y) R (begin n Y R h)).good a b x y).0 p)
      | inr (u, v) ↦ inr (into u, out_of v)
    ]
