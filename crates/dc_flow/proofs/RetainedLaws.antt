-- The marks of a list's buses, one bus after the other; the buses retained of those from k on; and they fit the slice.
use Rattle.prelude.proofs.Prelude.{◌≡◌, refl, sym, ap, ◌∙◌, Bool, true, false, cond, List, [], ◌∷◌, ℕ, suc, ◌+◌, ◌≤◌, ◌<◌, arith, eqb, length, get_or, drop, replicate, set, length-set, get_or-set_same, get_or-set_other, eqb-true}
use lib.ListN.{get_or-replicate}
use borrow.Author.Tests.{eqb-false}
use Rattle.lists.specs.Buses.{up_to, mem, others}
use Rattle.lists.proofs.Ends.{mem-here, mem-next, mem-end}
use Rattle.lists.proofs.Order.{length-up_to}
use Rattle.dc_flow.specs.Dc.{retained_of}
use Rattle.dc_flow.specs.Inner.Rows.{mark_of, Marked}
use Rattle.lists.proofs.Stores.{up_to-here}

-- ---- marks: those so far, and those to come by the rest of the list

-- the first i buses of the list are marked
abbrev pub Marking : List ℕ → ℕ → List ℕ → Type 0
Marking list i marks = (k : ℕ) → k < length marks → cond (mem k (drop i list)) 1 (get_or marks k 0) ≡ mark_of list k

always : (b : Bool) → cond {A = ℕ} b 1 1 ≡ 1
always true = refl
always false = refl

module _ (list marks : List ℕ) where
  pub unmarked-yet : marks ≡ replicate (length marks) 0 → Marking list 0 marks
  unfolding mark_of
  unmarked-yet e k h = ap (λ (x : ℕ). cond (mem k list) 1 x) (ap (λ (ms : List ℕ). get_or ms k 0) e ∙ get_or-replicate (length marks) k 0 0 h)

  pub all-marked : (i : ℕ) → length list ≤ i → Marking list i marks → Marked list marks
  all-marked i h m k l = rw (mem-end k i list h) at (m k l)

  module _ (i : ℕ) (within : i < length list) (m : Marking list i marks) where
    pub mark-next : get_or list i 0 < length marks → Marking list (i + 1) (set marks (get_or list i 0) 1)
    unfolding mark_of
    mark-next h k l = pick (eqb k (get_or list i 0)) refl
      where
        below : k < length marks
        below = omega (arith, length-set marks (get_or list i 0) 1)

        pick : (b : Bool) → eqb k (get_or list i 0) ≡ b → cond (mem k (drop (i + 1) list)) 1 (get_or (set marks (get_or list i 0) 1) k 0) ≡ mark_of list k
        pick true p =
            let e = eqb-true k (get_or list i 0) p in
            rw (ap (λ (x : ℕ). get_or (set marks (get_or list i 0) 1) x 0) e ∙ get_or-set_same marks (get_or list i 0) 1 0 h, always)
            (rw (mem-here k i list within (sym e)) at (m k below))
        pick false p =
            let ne = eqb-false k (get_or list i 0) p in
            rw (get_or-set_other marks (get_or list i 0) k 1 0 ne) (rw (mem-next k i list within (λ (e : get_or list i 0 ≡ k). ne (sym e))) at (m k below))

    pub mark-none : (get_or list i 0 < length marks → ⊥) → Marking list (i + 1) marks
    mark-none h k l = rw (mem-next k i list within (λ (e : get_or list i 0 ≡ k). h (omega arith))) at (m k l)

-- what a mark says
pub mark-tells : (named : Bool) (mark : ℕ) → mark ≡ cond named 1 0 → (mark ≡ 0 → named ≡ false) × ((mark ≡ 0 → ⊥) → named ≡ true)
mark-tells true mark e = ((λ z. absurd (omega arith)), (λ nz. refl))
mark-tells false mark e = ((λ z. refl), (λ nz. absurd (nz e)))

-- ---- buses retained

module _ (n k : ℕ) (interior : List ℕ) (h : k < n) where
  pub retained-here : mem k interior ≡ false → others interior (drop k (up_to n)) ≡ k ∷ others interior (drop (k + 1) (up_to n))
  unfolding others
  retained-here e = rw (up_to-here n k h, e)

  pub retained-skip : mem k interior ≡ true → others interior (drop k (up_to n)) ≡ others interior (drop (k + 1) (up_to n))
  unfolding others
  retained-skip e = rw (up_to-here n k h, e)

fewer : (ks xs : List ℕ) → length (others ks xs) ≤ length xs
unfolding others
fewer ks [] = omega arith
fewer ks (x ∷ xs) = go (mem x ks) (fewer ks xs)
  where
    go : (b : Bool) → length (others ks xs) ≤ length xs → length (cond b (others ks xs) (x ∷ others ks xs)) ≤ suc (length xs)
    go true h = omega arith
    go false h = omega arith

pub retained-fit : (n : ℕ) (interior : List ℕ) → length (retained_of n interior) ≤ n
unfolding retained_of
retained-fit n interior = rw length-up_to at (fewer interior (up_to n))
