-- The rows of a study's buses, and that 7 and 8 told from them are told from the numbers.
use Rattle.prelude.proofs.Prelude.{◌≡◌, refl, sym, ap, ◌∙◌, subst, Bool, true, false, List, ◌++◌, ℕ, ◌+◌, ◌-◌, arith, T, length, take, drop, sub-zero, add_assoc, append_assoc, length-append, take_at, drop-drop}
use lib.Seq.{drop_at}
use Rattle.lists.specs.Buses.{all_below, repeats, within, rows_in}
use Rattle.lists.proofs.Naming.{rows_in-append, below-within, repeats-rows}
use Rattle.lists.proofs.Lookups.{length-rows_in}
use Rattle.lists.proofs.Parts.{back}
use Rattle.ward_equivalent.specs.Ward.{retained, listed}
use Rattle.ward_equivalent.specs.Numbers.{NumberedStudy, in_rows, bus_refusal}

pub listed-rows : (N : NumberedStudy) → listed (in_rows N) ≡ rows_in N.numbers (listed N.study)
unfolding listed retained in_rows
listed-rows N =
    let ns = N.numbers in let S = N.study in
    sym (rows_in-append ns S.external (S.internal ++ S.boundary) ∙ ap (λ (l : List ℕ). rows_in ns S.external ++ l) (rows_in-append ns S.internal S.boundary))

-- ---- 7 and 8 told from the rows xs of the buses numbered ks

put : (E I X : List ℕ) (e i : ℕ) → length E ≡ e → back e i (E ++ drop e X) I ≡ (E ++ I) ++ drop (e + i) X
put E I X e i he =
    ap (λ (F : List ℕ). F ++ (I ++ drop i (drop e (E ++ drop e X)))) (take_at E (drop e X) e he)
    ∙ ap (λ (Q : List ℕ). E ++ (I ++ drop i Q)) (drop_at E (drop e X) e he)
    ∙ ap (λ (Q : List ℕ). E ++ (I ++ Q)) (drop-drop i e X)
    ∙ sym (append_assoc E I (drop (e + i) X))

-- three lists put one after the other at the front of a longer one
pub joined : (E I B X : List ℕ) (e i b : ℕ) → length E ≡ e → length I ≡ i
    → back (e + i) (e + i + b - (e + i)) (back e (e + i - e) (E ++ drop (e - 0) (drop 0 X)) I) B ≡ (E ++ (I ++ B)) ++ drop (e + (i + b)) X
joined E I B X e i b he hi =
    let last : e + i + b - (e + i) ≡ b = omega arith in
    let middle : e + i - e ≡ i = omega arith in
    ap (λ (m : ℕ). back (e + i) m (back e (e + i - e) (E ++ drop (e - 0) X) I) B) last
    ∙ ap (λ (m : ℕ). back (e + i) b (back e m (E ++ drop (e - 0) X) I) B) middle
    ∙ ap (λ (m : ℕ). back (e + i) b (back e i (E ++ drop m X) I) B) (sub-zero e)
    ∙ ap (λ (Z : List ℕ). back (e + i) b Z B) (put E I X e i he)
    ∙ put (E ++ I) B X (e + i) b (length-append E I ∙ rw (he, hi))
    ∙ ap (λ (F : List ℕ). F ++ drop (e + i + b) X) (append_assoc E I B)
    ∙ ap (λ (m : ℕ). (E ++ (I ++ B)) ++ drop m X) (add_assoc e i b)

front-is : (ns es is bs xs rest : List ℕ) (k : ℕ) → k ≡ length es + (length is + length bs) → xs ≡ (rows_in ns es ++ (rows_in ns is ++ rows_in ns bs)) ++ rest → take (k - 0) (drop 0 xs) ≡ rows_in ns (es ++ (is ++ bs))
front-is ns es is bs xs rest k long h =
    let A = rows_in ns es ++ (rows_in ns is ++ rows_in ns bs) in
    let same : A ≡ rows_in ns (es ++ (is ++ bs)) = sym (rows_in-append ns es (is ++ bs) ∙ ap (λ (l : List ℕ). rows_in ns es ++ l) (rows_in-append ns is bs)) in
    let count : length A ≡ k = ap length same ∙ length-rows_in ns (es ++ (is ++ bs)) ∙ rw (length-append es (is ++ bs), length-append is bs) (sym long) in
    ap (λ (m : ℕ). take m xs) (sub-zero k) ∙ ap (take k) h ∙ take_at A rest k count ∙ same

pub front-rows : (ns es is bs xs rest : List ℕ) → xs ≡ (rows_in ns es ++ (rows_in ns is ++ rows_in ns bs)) ++ rest
    → take (length es + (length is + length bs) - 0) (drop 0 xs) ≡ rows_in ns (es ++ (is ++ bs))
front-rows ns es is bs xs rest h = front-is ns es is bs xs rest (length es + (length is + length bs)) refl h

pub front-joined : (ns es is bs xs rest : List ℕ) → xs ≡ (rows_in ns es ++ (rows_in ns is ++ rows_in ns bs)) ++ rest
    → take (length es + length is + length bs - 0) (drop 0 xs) ≡ rows_in ns (es ++ (is ++ bs))
front-joined ns es is bs xs rest h = front-is ns es is bs xs rest (length es + length is + length bs) (add_assoc (length es) (length is) (length bs)) h

there : (ns ks xs : List ℕ) (b : Bool) → xs ≡ rows_in ns ks → all_below (length ns) xs ≡ b → within ns ks ≡ b
there ns ks xs b e h = sym (below-within ns ks) ∙ ap (all_below (length ns)) (sym e) ∙ h

twice-is : (ns ks xs : List ℕ) (b : Bool) → xs ≡ rows_in ns ks → within ns ks ≡ true → repeats xs ≡ b → repeats ks ≡ b
twice-is ns ks xs b e w h = sym (repeats-rows ns ks (subst T (sym w) tt)) ∙ ap repeats (sym e) ∙ h

pub named-lacks : (ns ks xs : List ℕ) → xs ≡ rows_in ns ks → all_below (length ns) xs ≡ false → bus_refusal ns ks ≡ 7
unfolding bus_refusal
named-lacks ns ks xs e h = rw (there ns ks xs false e h)

pub named-number-twice : (ns ks xs : List ℕ) → xs ≡ rows_in ns ks → all_below (length ns) xs ≡ true → repeats ns ≡ true → bus_refusal ns ks ≡ 8
unfolding bus_refusal
named-number-twice ns ks xs e h d = rw (there ns ks xs true e h, d)

pub named-twice : (ns ks xs : List ℕ) → xs ≡ rows_in ns ks → all_below (length ns) xs ≡ true → repeats ns ≡ false → repeats xs ≡ true → bus_refusal ns ks ≡ 8
unfolding bus_refusal
named-twice ns ks xs e h d r = rw (there ns ks xs true e h, d, twice-is ns ks xs true e (there ns ks xs true e h) r)

pub named_none : (ns ks xs : List ℕ) → xs ≡ rows_in ns ks → all_below (length ns) xs ≡ true → repeats ns ≡ false → repeats xs ≡ false → bus_refusal ns ks ≡ 0
unfolding bus_refusal
named_none ns ks xs e h d r = rw (there ns ks xs true e h, d, twice-is ns ks xs false e (there ns ks xs true e h) r)
