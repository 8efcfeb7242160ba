-- Every number that the call tells has a refusal.
use Rattle.prelude.proofs.Prelude.{refl, Bool, not, ◌&&◌, ◌++◌, ℕ, eqb, length}
use Rattle.refusals.specs.declared.Refusal.TheVariants.{TooMany, WrongLength, ListsDiffer, NoBus}
use Rattle.refusals.specs.Refusals.{answered}
use Rattle.refusals.proofs.Answering.{Told, told-refuse, told-given, told-computed}
use Rattle.lists.specs.Limits.{over}
use Rattle.rei_equivalent.specs.Rei.{ReiInput, rei_size, sized, rei_length_refusal, rei_shape_refusal, of_rei, rei_refusal}

told-lengths : (n p q : ℕ) (exact : Bool) → Told (rei_length_refusal n p q exact)
unfolding rei_length_refusal answered
told-lengths n p q exact =
    told-refuse (over n p q 0) TooMany _
    (told-refuse (not exact) WrongLength _
    (told-refuse (not (eqb p n && eqb q n)) ListsDiffer _
    (told-refuse (eqb n 0) NoBus 0 refl)))

pub rei-numbered : (g : ReiInput) → Told (rei_refusal g)
unfolding rei_refusal rei_shape_refusal
rei-numbered g =
    told-computed _ (of_rei (rei_size g) g.entries g.p g.q)
    (told-given _ (g.entries ++ (g.p ++ g.q))
    (told-lengths (rei_size g) (length g.p) (length g.q)
    (sized (rei_size g) (length g.entries) (length g.spoke_buses) (length g.spokes) (length g.tie_buses) (length g.ties))))
