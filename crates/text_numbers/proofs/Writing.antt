-- Laws of writing: nothing, one byte, one text behind another, and the length, which stays.
use Rattle.prelude.proofs.Prelude.{◌≡◌, refl, sym, ap, ◌∙◌, [], ◌∷◌, ◌++◌, ℕ, suc, ◌+◌, ◌<◌, add-one, arith, length, take, drop, ◌/◌, ◌%◌, append_assoc, append-nil, add-zero, add_assoc, set, length-append, length-take, length-drop, take-append-drop, take_at, drop-drop, drop-cons, get_or-set_same}
use lib.Seq.{set_split, append_snoc, drop-append-add, lt-length-set, drop-set-lt, take-set-le}
use Rattle.text_numbers.specs.Bytes.{Bytes}
use Rattle.text_numbers.specs.Words.{glyph, digits}
use Rattle.text_numbers.specs.Inner.Writing.{written, HasRoom, Wrote}
use Rattle.text_numbers.proofs.WordLaws.{length_digits}

pub written-nil : (out : Bytes) (at : ℕ) → written out at [] ≡ out
unfolding written
written-nil out at = simp (append-nil, add-zero, take-append-drop)

pub written-set : (out : Bytes) (at b : ℕ) → at < length out → set out at b ≡ written out at (b ∷ [])
unfolding written
written-set out at b h = rw (add-one, append_snoc) (set_split out at b h)

module _ (out : Bytes) (at : ℕ) (a : Bytes) (room : HasRoom out at a) where
  front_length : length (take at out ++ a) ≡ at + length a
  front_length = simp (length-append, length-take) (omega arith)

  pub length-written : length (written out at a) ≡ length out
  unfolding written
  length-written = simp (length-append, length-take, length-drop) (omega arith)

  back : (n : ℕ) → drop (at + length a + n) (take at out ++ a ++ drop (at + length a) out) ≡ drop (at + length a + n) out
  back n =
      ap (λ (k : ℕ). drop (k + n) (take at out ++ a ++ drop (at + length a) out)) (sym front_length)
      ∙ drop-append-add (take at out ++ a) (drop (at + length a) out) n
      ∙ drop-drop n (at + length a) out

  pub written_then : (b : Bytes) → written (written out at a) (at + length a) b ≡ written out at (a ++ b)
  unfolding written
  written_then b =
      ap (λ (x : Bytes). x ++ b ++ drop (at + length a + length b) (take at out ++ a ++ drop (at + length a) out))
      (take_at (take at out ++ a) (drop (at + length a) out) (at + length a) front_length)
      ∙ ap (λ (x : Bytes). take at out ++ a ++ b ++ x) (back (length b))
      ∙ ap (λ (x : Bytes). x ++ drop (at + length a + length b) out) (append_assoc (take at out) a b)
      ∙ ap (λ (k : ℕ). take at out ++ (a ++ b) ++ drop k out) (add_assoc at (length a) (length b) ∙ ap (λ (k : ℕ). at + k) (sym (length-append a b)))

-- one text behind another
pub then : {out out₁ out₂ : Bytes} {at next₁ next₂ : ℕ} {a b : Bytes} → HasRoom out at (a ++ b)
    → Wrote out at a next₁ out₁ → Wrote out₁ next₁ b next₂ out₂ → Wrote out at (a ++ b) next₂ out₂
then {out} {out₁} {out₂} {at} {next₁} {next₂} {a} {b} room f g =
    let e : length (a ++ b) ≡ length a + length b = length-append a b in
    record {
      here = g.here ∙ ap (λ (k : ℕ). k + length b) f.here ∙ add_assoc at (length a) (length b) ∙ ap (λ (k : ℕ). at + k) (sym e);
      there =
          g.there
          ∙ ap (λ (x : Bytes). written x next₁ b) f.there
          ∙ ap (λ (k : ℕ). written (written out at a) k b) f.here
          ∙ written_then out at a (omega arith) b;
    }

pub then₃ : {out out₁ out₂ out₃ : Bytes} {at next₁ next₂ next₃ : ℕ} {a b c : Bytes} → HasRoom out at (a ++ b ++ c)
    → Wrote out at a next₁ out₁ → Wrote out₁ next₁ b next₂ out₂ → Wrote out₂ next₂ c next₃ out₃ → Wrote out at (a ++ b ++ c) next₃ out₃
then₃ {a = a} {b = b} {c = c} room f g h = then room (then (omega (arith, length-append (a ++ b) c)) f g) h

pub then₄ : {out out₁ out₂ out₃ out₄ : Bytes} {at next₁ next₂ next₃ next₄ : ℕ} {a b c d : Bytes} → HasRoom out at (a ++ b ++ c ++ d)
    → Wrote out at a next₁ out₁ → Wrote out₁ next₁ b next₂ out₂ → Wrote out₂ next₂ c next₃ out₃ → Wrote out₃ next₃ d next₄ out₄
    → Wrote out at (a ++ b ++ c ++ d) next₄ out₄
then₄ {a = a} {b = b} {c = c} {d = d} room f g h k = then room (then₃ (omega (arith, length-append (a ++ b ++ c) d)) f g h) k

pub nothing : (out : Bytes) (at : ℕ) → Wrote out at [] at out
nothing out at = record { here = sym (add-zero at); there = sym (written-nil out at) }

pub one_byte : (out : Bytes) (at b : ℕ) → at < length out → Wrote out at (b ∷ []) (at + 1) (set out at b)
one_byte out at b h = record { here = refl; there = written-set out at b h }

-- what was written left the length as it was
pub wrote-length : {out left : Bytes} {at next : ℕ} {bs : Bytes} → HasRoom out at bs → Wrote out at bs next left → length left ≡ length out
wrote-length {out} {left} {at} {next} {bs} room w = ap length w.there ∙ length-written out at bs room

-- a text copied into a part that is lent, and comes back
pub put-part : (out text part : Bytes) (at n : ℕ) → n ≡ length text → part ≡ text → take at out ++ (part ++ drop n (drop at out)) ≡ written out at text
unfolding written
put-part out text part at n e p = rw (p, e, drop-drop, append_assoc)

-- a number digit by digit, downward
pub next-digit : (out : Bytes) (at b i n : ℕ) → at + i < length out
    → written (set out (at + i) (glyph (n % b))) at (digits b i (n / b)) ≡ written out at (digits b (suc i) n)
unfolding written digits
next-digit out at b i n h =
    let d = glyph (n % b) in
    let ds = digits b i (n / b) in
    let j = at + i in
    let k : length ds ≡ i = length_digits b i (n / b) in
    let s : drop j (set out j d) ≡ d ∷ drop (suc j) out =
    drop-cons (set out j d) j 0 (lt-length-set out j d h)
    ∙ ap (λ (x : ℕ). x ∷ drop (suc j) (set out j d)) (get_or-set_same out j d 0 h)
    ∙ ap (λ (x : Bytes). d ∷ x) (drop-set-lt (suc j) out j d (omega arith)) in
    let e : length (ds ++ (d ∷ [])) ≡ suc i = length-append ds (d ∷ []) ∙ simp k (add-one i) in
    ap (λ (x : ℕ). take at (set out j d) ++ ds ++ drop (at + x) (set out j d)) k
    ∙ ap (λ (x : Bytes). x ++ ds ++ drop j (set out j d)) (take-set-le at out j d (omega arith))
    ∙ ap (λ (x : Bytes). take at out ++ ds ++ x) s
    ∙ sym (append_snoc (take at out ++ ds) d (drop (suc j) out))
    ∙ ap (λ (x : Bytes). x ++ drop (suc j) out) (append_assoc (take at out) ds (d ∷ []))
    ∙ ap (λ (x : ℕ). take at out ++ (ds ++ (d ∷ [])) ++ drop x out) (let f : suc j ≡ at + length (ds ++ (d ∷ [])) = omega arith in f)
