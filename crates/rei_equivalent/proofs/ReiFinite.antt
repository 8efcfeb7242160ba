-- What an accepted call of `compute` answers and writes is finite: sums and spokes are computed, ties are given entries with their signs turned.
-- And nothing finite is refused.
use Rattle.prelude.proofs.Prelude.{◌≡◌, refl, sym, subst, Bool, true, false, cond, List, [], ◌∷◌, ◌++◌, ℕ, zero, suc, ◌+◌, ◌*◌, ◌<◌, arith, T, ltb, ltb→lt, length, get_or, Float, nan, inf, fin, neg, of_bits, lt, and_l, and_r, finite}
use Rattle.binary64.specs.Values.{all_finite}
use Rattle.complex.specs.{Complex, Matrix, plus0, one, small_magnitude, magnitude, cneg, entry, entry_at, zeros, ◌⊘◌}
use Rattle.complex.specs.Leaves.{of_magnitude}
use Rattle.complex.proofs.Finite.{none, all_more, all_join, all_left, all_right, all-at, first_of, rest_of}
use Rattle.complex.proofs.Sticky.{Finite}
use Rattle.complex.proofs.Matrices.{entry-within}
use Rattle.lists.specs.Buses.{up_to, all_below}
use Rattle.lists.proofs.Buses.{all-below-up_to}
use Rattle.std.proofs.Common.{Result, Ok}
use Rattle.refusals.specs.declared.Refusal.{Refusal}
use Rattle.refusals.specs.Refusals.{refusal, number_of, answered}
use Rattle.refusals.proofs.Numbers.{given-none, computed-none}
use Rattle.dc_flow.proofs.Accepted.{given-met, computed-met, numbered}
use Rattle.rei_equivalent.specs.declared.ReiEquivalent.{ReiEquivalent}
use Rattle.rei_equivalent.specs.Rei.{ReiInput, ReiFinite, Tie, total, partial_sums, spoke, of_spoke, spoke_parts, of_spokes, is_tie, row_ties, upper_ties, tie_parts, all_ties, ties_of, spokes_of, unused, rei_buses, rei_size, rei_shape_refusal, of_rei, rei_refusal, equivalent_of, numbers_of}
use Rattle.rei_equivalent.proofs.ReiNumbers.{plus0-finite, sum_tells}
use Rattle.rei_equivalent.proofs.ReiAnswers.{rei-accepted}

-- ---- spokes

spoke-finite : (n : Float) (y : Complex) → T (all_finite (of_spoke n y)) → Finite (spoke n y)
unfolding of_spoke spoke
spoke-finite n y h = go (lt small_magnitude (magnitude y)) (all_right (of_magnitude y) _ h)
  where
    go : (strong : Bool) → T (all_finite (cond strong (n ∷ y.re ⊘ n ∷ y.im ⊘ n ∷ []) [])) → Finite (cond strong (record { re = y.re ⊘ n; im = y.im ⊘ n }) (record { re = plus0; im = plus0 }))
    go true k = let shares = rest_of n _ k in (first_of (y.re ⊘ n) _ shares, first_of (y.im ⊘ n) [] (rest_of (y.re ⊘ n) _ shares))
    go false k = (plus0-finite, plus0-finite)

spokes-finite : (n : Float) (Y : Matrix) (is : List ℕ) → T (all_finite (of_spokes n Y is)) → T (all_finite (spoke_parts n Y is))
unfolding of_spokes spoke_parts
spokes-finite n Y [] h = none
spokes-finite n Y (i ∷ is) h =
    let (re, im) = spoke-finite n (Y i i) (all_left (of_spoke n (Y i i)) (of_spokes n Y is) h) in
    all_more _ _ re (all_more _ _ im (spokes-finite n Y is (all_right (of_spoke n (Y i i)) (of_spokes n Y is) h)))

-- ---- ties

neg-finite : (x : Float) → T (finite x) → T (finite (neg x))
unfolding neg
neg-finite nan h = h
neg-finite (inf s) h = h
neg-finite (fin s m e) h = tt

head-below : (n i : ℕ) (is : List ℕ) → T (all_below n (i ∷ is)) → (i < n) × T (all_below n is)
head-below n i is h = (ltb→lt i n (and_l (ltb i n) (all_below n is) h), and_r (ltb i n) (all_below n is) h)

parts_join : (ts us : List Tie) → T (all_finite (tie_parts ts)) → T (all_finite (tie_parts us)) → T (all_finite (tie_parts (ts ++ us)))
unfolding tie_parts
parts_join [] us h k = k
parts_join (t ∷ ts) us h k =
    let rest = rest_of t.admittance.re _ h in
    all_more _ _ (first_of t.admittance.re _ h) (all_more _ _ (first_of t.admittance.im _ rest) (parts_join ts us (rest_of t.admittance.im _ rest) k))

row-finite : (n : ℕ) (buses : List ℕ) (ys : ℕ → Complex) (i : ℕ) (js : List ℕ) → T (all_below n js) → ((j : ℕ) → j < n → Finite (ys j))
    → T (all_finite (tie_parts (row_ties buses ys i js)))
unfolding row_ties tie_parts cneg
row-finite n buses ys i [] b h = none
row-finite n buses ys i (j ∷ js) b h =
    let (l, bs) = head-below n j js b in
    go (is_tie (ys j)) (h j l) (row-finite n buses ys i js bs h)
  where
    go : (tie : Bool) → Finite (ys j) → T (all_finite (tie_parts (row_ties buses ys i js)))
        → T (all_finite (tie_parts (cond tie (record { first = get_or buses i 0; second = get_or buses j 0; admittance = cneg (ys j) } ∷ row_ties buses ys i js) (row_ties buses ys i js))))
    go true (re, im) rest = all_more _ _ (neg-finite (ys j).re re) (all_more _ _ (neg-finite (ys j).im im) rest)
    go false f rest = rest

upper-finite : (n : ℕ) (buses : List ℕ) (Y : Matrix) (is : List ℕ) → T (all_below n is) → ((i j : ℕ) → i < n → j < n → Finite (Y i j))
    → T (all_finite (tie_parts (upper_ties buses Y is)))
unfolding upper_ties tie_parts
upper-finite n buses Y [] b h = none
upper-finite n buses Y (i ∷ is) b h =
    let (l, bs) = head-below n i is b in
    parts_join (row_ties buses (Y i) i is) (upper_ties buses Y is) (row-finite n buses (Y i) i is bs (λ j k. h i j l k)) (upper-finite n buses Y is bs h)

entries-finite : (n : ℕ) (ys : List Float) → length ys ≡ 2 * (n * n) → T (all_finite ys) → (i j : ℕ) → i < n → j < n → Finite (entry_at n ys i j)
unfolding entry_at entry
entries-finite n ys size h i j l k =
    let within = entry-within n n i j l k in
    (all-at ys (2 * (i * n + j)) (omega arith) h, all-at ys (2 * (i * n + j) + 1) (omega arith) h)

zeros-finite : (k : ℕ) → T (all_finite (zeros k))
unfolding zeros
zeros-finite zero = none
zeros-finite (suc k) = all_more plus0 _ plus0-finite (zeros-finite k)

-- ---- the call

accepted : (f : ℕ) (e : ReiEquivalent) → number_of (answered e f) ≡ 0 → f ≡ 0
unfolding answered
accepted zero e h = refl
accepted (suc f) e h = absurd (numbered (refusal (suc f)) h)

one-finite : T (finite one)
unfolding one of_bits
one-finite = tt

module _ (g : ReiInput) (z : rei_refusal g ≡ 0) where
  told : ((rei_shape_refusal g ≡ 0) × T (all_finite (g.entries ++ (g.p ++ g.q)))) × T (all_finite (of_rei (rei_size g) g.entries g.p g.q))
  unfolding rei_refusal
  told = let (t, computed) = computed-none _ _ z in (given-none _ _ t, computed)

  sums : T (finite (total g.p)) × T (finite (total g.q))
  unfolding of_rei
  sums =
      let after = all_right (partial_sums plus0 g.p) _ told.1 in
      (subst T (sym (sum_tells g.p)) (all_left (partial_sums plus0 g.p) _ told.1), subst T (sym (sum_tells g.q)) (all_left (partial_sums plus0 g.q) _ after))

  answer-finite : T (all_finite (numbers_of (answered (equivalent_of g) (rei_refusal g))))
  unfolding numbers_of answered equivalent_of
  answer-finite = rw z (all_more one _ one-finite (all_more (total g.p) _ sums.0 (all_more (total g.q) [] sums.1 none)))

  spokes-are : T (all_finite (spokes_of g))
  unfolding spokes_of of_rei
  spokes-are = spokes-finite _ _ (up_to (rei_size g)) (all_right (partial_sums plus0 g.q) _ (all_right (partial_sums plus0 g.p) _ told.1))

  ties-are : T (all_finite (tie_parts (ties_of g) ++ zeros (unused g)))
  unfolding ties_of all_ties rei_shape_refusal
  ties-are =
      let lengths = rei-accepted 0 _ _ _ _ _ _ _ _ (sym told.0.0) refl in
      all_join (tie_parts (ties_of g)) (zeros (unused g))
      (upper-finite (rei_size g) (rei_buses g) (entry_at (rei_size g) g.entries) (up_to (rei_size g)) (all-below-up_to (rei_size g))
      (entries-finite (rei_size g) g.entries lengths.1 (all_left g.entries _ told.0.1)))
      (zeros-finite (unused g))

not-refused : (g : ReiInput) → rei_shape_refusal g ≡ 0 → T (all_finite (g.entries ++ (g.p ++ g.q))) → T (all_finite (of_rei (rei_size g) g.entries g.p g.q)) → rei_refusal g ≡ 0
unfolding rei_refusal
not-refused g shape given computed =
    computed-met _ (of_rei (rei_size g) g.entries g.p g.q) (given-met _ (g.entries ++ (g.p ++ g.q)) shape given) computed

done : (f : ℕ) (e : ReiEquivalent) (r : Result ReiEquivalent Refusal) → f ≡ 0 → r ≡ answered e f → r ≡ Ok e
unfolding answered
done f e r z a = rw z at a

pub rei-finite : ReiFinite
rei-finite =
    record {
      outputs-finite = λ g r buses spokes ends ties after h.
          let z = accepted (rei_refusal g) (equivalent_of g) (subst (λ (a : Result ReiEquivalent Refusal). number_of a ≡ 0) after.answer h) in (
            subst (λ (a : Result ReiEquivalent Refusal). T (all_finite (numbers_of a))) (sym after.answer) (answer-finite g z),
            subst (λ (xs : List Float). T (all_finite xs)) (sym (rw z at after.spokes_are)) (spokes-are g z),
            subst (λ (xs : List Float). T (all_finite xs)) (sym (rw z at after.ties_are)) (ties-are g z),
          );
      accepted = λ g r buses spokes ends ties after shape given computed.
          let z = not-refused g shape given computed in
          (done (rei_refusal g) (equivalent_of g) r z after.answer, rw z at after.spoke_buses_are, rw z at after.spokes_are, rw z at after.tie_buses_are, rw z at after.ties_are);
    }
