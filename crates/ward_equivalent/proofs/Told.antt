-- What the lengths of a study tell, and what they leave: 1, 2, 3, or lengths that fit.
use Rattle.prelude.proofs.Prelude.{◌≡◌, refl, sym, ◌∙◌, subst, Bool, true, false, not, ◌||◌, ◌⊎◌, inl, inr, ⊎_elim, ℕ, ◌+◌, ◌*◌, ◌≤◌, arith, eqb, ltb, ltb-false, eqb-true, not-false}
use Rattle.refusals.specs.Refusals.{limit}
use Rattle.ward_equivalent.specs.declared.lengths.Lengths.{Lengths}
use Rattle.ward_equivalent.specs.Lengths.{over_limit, wrong_lengths, unmatched, length_refusal}
use Rattle.ward_equivalent.proofs.Buses.{none_of}

-- ---- lengths within the limit, and lengths that are exact

pub record Few (l : Lengths) : Type 0 where
  pub size : l.size ≤ limit
  pub internal : l.internal ≤ limit
  pub external : l.external ≤ limit
  pub boundary : l.boundary ≤ limit

pub few : (l : Lengths) → over_limit l ≡ false → Few l
unfolding over_limit
few l h =
    let a = ltb limit l.size in let b = ltb limit l.numbers in let c = ltb limit l.internal in let d = ltb limit l.external in
    let e = ltb limit l.boundary in let f = ltb limit l.p_ext in let g = ltb limit l.q_ext in
    let h7 = none_of (a || b || c || d || e || f || g) (ltb limit l.v_ext) h in
    let h6 = none_of (a || b || c || d || e || f) g h7.0 in
    let h5 = none_of (a || b || c || d || e) f h6.0 in
    let h4 = none_of (a || b || c || d) e h5.0 in
    let h3 = none_of (a || b || c) d h4.0 in
    let h2 = none_of (a || b) c h3.0 in
    let h1 = none_of a b h2.0 in
    record { size = ltb-false _ _ h1.0; internal = ltb-false _ _ h2.1; external = ltb-false _ _ h3.1; boundary = ltb-false _ _ h4.1 }

pub record Fitting (l : Lengths) : Type 0 where
  pub few : Few l
  pub given : l.given ≡ 2 * (l.size * l.size)
  pub numbers : l.numbers ≡ l.size
  pub y-ward : l.y_ward ≡ 2 * ((l.internal + l.boundary) * (l.internal + l.boundary))
  pub p-ward : l.p_ward ≡ l.boundary
  pub q-ward : l.q_ward ≡ l.boundary
  pub correction : l.correction ≡ l.boundary
  pub compensation : l.compensation ≡ l.boundary
  pub work : l.work ≡ 2 * (l.external * (l.external + (l.internal + l.boundary) + 1))
  pub p-ext : l.p_ext ≡ l.external
  pub q-ext : l.q_ext ≡ l.external
  pub v-ext : l.v_ext ≡ l.external

same : (a b : ℕ) → not (eqb a b) ≡ false → a ≡ b
same a b h = eqb-true a b (not-false (eqb a b) h)

fitting : (l : Lengths) → over_limit l ≡ false → wrong_lengths l ≡ false → unmatched l ≡ false → Fitting l
unfolding wrong_lengths unmatched
fitting l t m u =
    let r = l.internal + l.boundary in
    let a = not (eqb l.given (2 * (l.size * l.size))) in let b = not (eqb l.numbers l.size) in
    let c = not (eqb l.y_ward (2 * (r * r))) in let d = not (eqb l.p_ward l.boundary) in
    let e = not (eqb l.q_ward l.boundary) in let f = not (eqb l.correction l.boundary) in
    let g = not (eqb l.compensation l.boundary) in
    let m7 = none_of (a || b || c || d || e || f || g) (not (eqb l.work (2 * (l.external * (l.external + r + 1))))) m in
    let m6 = none_of (a || b || c || d || e || f) g m7.0 in
    let m5 = none_of (a || b || c || d || e) f m6.0 in
    let m4 = none_of (a || b || c || d) e m5.0 in
    let m3 = none_of (a || b || c) d m4.0 in
    let m2 = none_of (a || b) c m3.0 in
    let m1 = none_of a b m2.0 in
    let p = not (eqb l.p_ext l.external) in let q = not (eqb l.q_ext l.external) in
    let u2 = none_of (p || q) (not (eqb l.v_ext l.external)) u in
    let u1 = none_of p q u2.0 in
    record {
      few = few l t;
      given = same _ _ m1.0;
      numbers = same _ _ m1.1;
      y-ward = same _ _ m2.1;
      p-ward = same _ _ m3.1;
      q-ward = same _ _ m4.1;
      correction = same _ _ m5.1;
      compensation = same _ _ m6.1;
      work = same _ _ m7.1;
      p-ext = same _ _ u1.0;
      q-ext = same _ _ u1.1;
      v-ext = same _ _ u2.1;
    }

-- ---- 1, 2, 3 and what comes after

pub record Refuses (l : Lengths) : Type 0 where
  pub some : length_refusal l 0 ≡ 0 → ⊥
  pub small : length_refusal l 0 ≤ 8
  pub whatever : (next : ℕ) → length_refusal l next ≡ length_refusal l 0

pub record Passes (l : Lengths) : Type 0 where
  pub fits : Fitting l
  pub on : (next : ℕ) → length_refusal l next ≡ next

by_tests : (l : Lengths) (a b c : Bool) → over_limit l ≡ a → wrong_lengths l ≡ b → unmatched l ≡ c → Refuses l ⊎ Passes l
unfolding length_refusal
by_tests l true b c t m u =
    inl (record { some = λ (z : length_refusal l 0 ≡ 0). let y = simp t at z in omega arith; small = simp t (omega arith); whatever = λ (next : ℕ). simp t })
by_tests l false true c t m u =
    inl (record { some = λ (z : length_refusal l 0 ≡ 0). let y = simp (t, m) at z in omega arith; small = simp (t, m) (omega arith); whatever = λ (next : ℕ). simp (t, m) })
by_tests l false false true t m u =
    inl (record { some = λ (z : length_refusal l 0 ≡ 0). let y = simp (t, m, u) at z in omega arith; small = simp (t, m, u) (omega arith); whatever = λ (next : ℕ). simp (t, m, u) })
by_tests l false false false t m u = inr (record { fits = fitting l t m u; on = λ (next : ℕ). simp (t, m, u) })

lengths-tell : (l : Lengths) → Refuses l ⊎ Passes l
lengths-tell l = by_tests l (over_limit l) (wrong_lengths l) (unmatched l) refl refl refl

pub lengths-refuse : (l : Lengths) → (length_refusal l 0 ≡ 0 → ⊥) → Refuses l
lengths-refuse l h = ⊎_elim (λ (r : Refuses l). r) (λ (p : Passes l). absurd (h (p.on 0))) (lengths-tell l)

-- where nothing is told, the lengths fit, and nothing comes after
pub lengths-pass : (l : Lengths) (next : ℕ) → length_refusal l next ≡ 0 → Passes l × (next ≡ 0)
lengths-pass l next z = ⊎_elim (λ (r : Refuses l). absurd (r.some (sym (r.whatever next) ∙ z))) (λ (p : Passes l). (p, sym (p.on next) ∙ z)) (lengths-tell l)

-- and none of the work's numbers is among them
pub told-most : (l : Lengths) (next : ℕ) → next ≤ 8 → length_refusal l next ≤ 8
told-most l next h = ⊎_elim (λ (r : Refuses l). subst (λ (k : ℕ). k ≤ 8) (sym (r.whatever next)) r.small) (λ (p : Passes l). subst (λ (k : ℕ). k ≤ 8) (sym (p.on next)) h) (lengths-tell l)
