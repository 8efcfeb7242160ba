-- What `compute` answers and leaves where it is refused, and where it is not; and what no refusal tells of the lengths.
use Rattle.prelude.proofs.Prelude.{◌≡◌, refl, sym, ◌∙◌, true, false, not, ◌&&◌, List, ◌++◌, ℕ, zero, suc, ◌*◌, ◌≤◌, ◌<◌, arith, eqb, Float, true≢false}
use Rattle.binary64.specs.Values.{all_finite}
use Rattle.complex.specs.{one}
use Rattle.refusals.specs.Refusals.{limit, outcome, answered}
use Rattle.lists.specs.Limits.{over}
use Rattle.std.proofs.Common.{Ok, Err}
use Rattle.refusals.specs.declared.Refusal.{Refusal}
use Rattle.refusals.specs.declared.Refusal.TheVariants.{GivenNotFinite, ComputedNotFinite}
use Rattle.refusals.proofs.Answering.{passed, accepting, accepted, held-refused}
use Rattle.refusals.proofs.Numbers.{given-before, given-not, given-all, computed-before, computed-not, computed-all}
use Rattle.lists.proofs.Within.{size-within}
use Rattle.rei_equivalent.specs.Inner.Writing.{TiesWritten}
use Rattle.rei_equivalent.specs.Rei.{ReiInput, AfterRei, total, spokes_of, rei_buses, rei_size, ties_of, tie_room, sized, rei_length_refusal, rei_shape_refusal, of_rei, rei_refusal, equivalent_of, unused}

-- ---- what is told: by the lengths, by the numbers given, by the numbers computed

module _ {A : Type 0} (g : ReiInput) (v : A) where
  pub shape-refused : (r : Refusal) → Err r ≡ outcome (rei_shape_refusal g) → Err r ≡ answered v (rei_refusal g)
  unfolding rei_refusal
  shape-refused r e = computed-before v v _ _ r (given-before v (tt {0}) (rei_shape_refusal g) _ r e)

  module _ (e : Ok (tt {0}) ≡ outcome (rei_shape_refusal g)) where
    pub given-refused : all_finite (g.entries ++ (g.p ++ g.q)) ≡ false → Err GivenNotFinite ≡ answered v (rei_refusal g)
    unfolding rei_refusal
    given-refused h = computed-before v v _ _ GivenNotFinite (given-not v (tt {0}) (rei_shape_refusal g) _ tt e h)

    module _ (t : all_finite (g.entries ++ (g.p ++ g.q)) ≡ true) where
      pub computed-refused : all_finite (of_rei (rei_size g) g.entries g.p g.q) ≡ false → Err ComputedNotFinite ≡ answered v (rei_refusal g)
      unfolding rei_refusal
      computed-refused h = computed-not v v _ _ v (given-all v (tt {0}) (rei_shape_refusal g) _ tt e t) h

      pub none-refused : all_finite (of_rei (rei_size g) g.entries g.p g.q) ≡ true → Ok v ≡ answered v (rei_refusal g)
      unfolding rei_refusal
      none-refused h = computed-all v v _ _ v (given-all v (tt {0}) (rei_shape_refusal g) _ tt e t) h

-- ---- what follows

pub after-refused : (g : ReiInput) (r : Refusal) → Err r ≡ answered (equivalent_of g) (rei_refusal g) → AfterRei g (Err r) g.spoke_buses g.spokes g.tie_buses g.ties
after-refused g r e =
    let v = equivalent_of g in
    record {
      answer = e;
      spoke_buses_are = held-refused v _ _ _ r e;
      spokes_are = held-refused v _ _ _ r e;
      tie_buses_are = held-refused v _ _ _ r e;
      ties_are = held-refused v _ _ _ r e;
    }

pub after-done : (g : ReiInput) (p q : Float) (count : ℕ) (buses : List ℕ) (spokes : List Float) (ends : List ℕ) (ties : List Float)
    → Ok (equivalent_of g) ≡ answered (equivalent_of g) (rei_refusal g) → p ≡ total g.p → q ≡ total g.q → buses ≡ rei_buses g → spokes ≡ spokes_of g
    → TiesWritten (rei_size g) g.entries buses count ends ties
    → AfterRei g (Ok (record { rei_bus_id = g.bus_id; rei_voltage_pu = one; rei_p_mw = p; rei_q_mvar = q; n_ties = count })) buses spokes ends ties
unfolding equivalent_of ties_of unused
after-done g p q count buses spokes ends ties e x y b s w =
    let v : TiesWritten (rei_size g) g.entries (rei_buses g) count ends ties = rw b at w in
    let z = (accepted (equivalent_of g) (equivalent_of g) (rei_refusal g) (equivalent_of g) e).0 in
    record {
      answer = rw (x, y, v.counted) e;
      spoke_buses_are = rw z b;
      spokes_are = rw z s;
      tie_buses_are = rw z v.ends_are;
      ties_are = rw z v.ties_are;
    }

above-none : (n : ℕ) → eqb n 0 ≡ false → 0 < n
above-none zero h = absurd (true≢false h)
above-none (suc n) h = omega arith

pub rei-accepted : (r n p q y sb s tb t : ℕ) → r ≡ rei_length_refusal n p q (sized n y sb s tb t) → r ≡ 0
    → (n ≤ limit) × (y ≡ 2 * (n * n)) × (sb ≡ n) × (s ≡ 2 * n) × (tb ≡ tie_room n) × (t ≡ tie_room n) × (0 < n)
unfolding rei_length_refusal sized
rei-accepted r n p q y sb s tb t e z =
    let (few, e2) = passed (over n p q 0) 0 _ (sym e ∙ z) in
    let (sizes, e3) = passed (not (eqb y (2 * (n * n)) && (eqb sb n && (eqb s (2 * n) && (eqb tb (tie_room n) && eqb t (tie_room n)))))) 1 _ e2 in
    let (_, e4) = passed (not (eqb p n && eqb q n)) 2 _ e3 in
    let (some, _) = passed (eqb n 0) 3 _ e4 in
    let limits = size-within _ n p q 0 refl few in
    let more = above-none n some in
    search accepting
