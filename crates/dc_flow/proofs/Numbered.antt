-- Every number that a call tells has a refusal.
use Rattle.prelude.proofs.Prelude.{refl, not, ◌&&◌, List, ℕ, ◌*◌, eqb, length, Float}
use Rattle.refusals.specs.declared.Refusal.TheVariants.{TooMany, WrongLength, ListsDiffer, NoSuchEnd}
use Rattle.refusals.specs.Refusals.{answered}
use Rattle.refusals.proofs.Answering.{Told, told-refuse, told-given, told-computed}
use Rattle.lists.specs.Buses.{all_below}
use Rattle.lists.specs.Limits.{over}
use Rattle.dc_flow.specs.Dc.{retained_refusal, ends_refusal, build_shape_refusal, build_refusal, of_lodf, lodf_shape_refusal, lodf_refusal}

pub retained-numbered : (n : ℕ) (interior : List ℕ) (len : ℕ) → Told (retained_refusal n interior len)
unfolding retained_refusal answered
retained-numbered n interior len =
    told-refuse (over n (length interior) 0 0) TooMany _
    (told-refuse (not (eqb len n)) WrongLength 0 refl)

told-ends : (n : ℕ) (froms tos : List ℕ) → Told (ends_refusal n froms tos)
unfolding ends_refusal answered
told-ends n froms tos = told-refuse (not (all_below n froms && all_below n tos)) NoSuchEnd 0 refl

pub build-numbered : (n : ℕ) (froms tos : List ℕ) (xs : List Float) (len : ℕ) → Told (build_refusal n froms tos xs len)
unfolding build_refusal build_shape_refusal
build-numbered n froms tos xs len =
    told-given _ xs
    (told-refuse (over n (length froms) (length tos) (length xs)) TooMany _
    (told-refuse (not (eqb len (n * n))) WrongLength _
    (told-refuse (not (eqb (length tos) (length froms) && eqb (length xs) (length froms))) ListsDiffer _
    (told-ends n froms tos))))

pub lodf-numbered : (n : ℕ) (ptdf : List Float) (froms tos : List ℕ) (len : ℕ) → Told (lodf_refusal n ptdf froms tos len)
unfolding lodf_refusal lodf_shape_refusal
lodf-numbered n ptdf froms tos len =
    told-computed _ (of_lodf n ptdf froms tos)
    (told-given _ ptdf
    (told-refuse (over n (length froms) (length tos) 0) TooMany _
    (told-refuse (not (eqb (length ptdf) (length froms * n) && eqb len (length froms * length froms))) WrongLength _
    (told-refuse (not (eqb (length tos) (length froms))) ListsDiffer _
    (told-ends n froms tos)))))
