-- `kron_reduction::careful::Front::row_refusal` meets its contract: the own entry is too small, nothing need be tried, its squared magnitude is not finite, or the rows tell.
use Rattle.prelude.proofs.Prelude.{rules, ◌≡◌, refl, sym, ap, ◌∙◌, subst, Bool, true, false, not, ◌&&◌, T, Float, lt, finite}
use Rattle.complex.specs.{division_limit, sqmag, Matrix, entry_at}
use Rattle.complex.specs.Inner.Ordinary.{ordinary_square}
use Rattle.kron_reduction.proofs.Rows.{all-fine, fine-all, row_small, row_done, row-not, row-square, row-ordinary}
use Rattle.kron_reduction.proofs.careful.Front.row_refusal.Goals.{Else-d, Start, then-surely_finite, else-surely_finite+then-finite, else-surely_finite+else-finite}
use Rattle.kron_reduction.proofs.careful.Front.row_refusal.Goals as goal

abbrev Y : Start → Matrix
Y s = entry_at s.args.self.now.n s.args.self.now.y.now

abbrev own : Start → Float
own s = sqmag (Y s s.args.k s.args.k)

pub returns-then-d : goal.returns-then-d
unfolding division_limit
returns-then-d c =
    row_small _ _ _ c.requires.0 (ap (λ (x : Float). lt x division_limit) (sym c.own_square-d.ensures) ∙ c.if-d.true)

-- an own entry that is not too small
module _ (c : Else-d) where
  abbrev start : Start
  start = (goal.at.Else-d c).Start

  big : lt (own start) division_limit ≡ false
  unfolding division_limit
  big = ap (λ (x : Float). lt x division_limit) (sym c.own_square-d.ensures) ∙ c.if-d.false

both : (far ordinary : Bool) → (not far && ordinary) ≡ true → (far ≡ false) × T ordinary
both true o e = absurd (subst T (sym e) tt)
both false o e = (refl, subst T (sym e) tt)

pub returns-then-rows_finite : goal.returns-then-rows_finite
returns-then-rows_finite c =
    let e = (goal.at.returns-then-rows_finite c).Else-d in
    let s = start e in
    elim c.if-surely_finite.branch [
      | then-surely_finite w ↦
          let (far, all) = both (lt c.own_square-d.result ordinary_square) s.args.ordinary (sym c.surely_finite.ensures ∙ w.if-surely_finite.true) in
          row-ordinary _ _ _ s.requires.0 (search rules) (s.requires.1 all) (big e) (ap (λ (x : Float). lt x ordinary_square) (sym c.own_square-d.ensures) ∙ far)
      | else-surely_finite+then-finite w ↦
          row_done s.args.self.now.n (Y s) s.args.k s.requires.0 (big e)
          (fine-all s.args.self.now.n (Y s) s.args.k s.requires.0 (subst T (sym (ap finite (sym c.own_square-d.ensures) ∙ sym w.finite.ensures ∙ w.if-finite.true)) tt)
          (w.rows_finite.ensures.0 (subst T (sym (sym w.value-is ∙ c.if-rows_finite.true)) tt)))
      | else-surely_finite+else-finite w ↦ absurd (subst T (sym c.if-rows_finite.true ∙ w.value-is ∙ w.if-finite.false) tt)
    ]

pub returns-else-rows_finite : goal.returns-else-rows_finite
returns-else-rows_finite c =
    let e = (goal.at.returns-else-rows_finite c).Else-d in
    let s = start e in
    elim c.if-surely_finite.branch [
      | then-surely_finite w ↦ absurd (subst T (sym w.if-surely_finite.true ∙ sym w.value-is ∙ c.if-rows_finite.false) tt)
      | else-surely_finite+then-finite w ↦
          row-not s.args.self.now.n (Y s) s.args.k s.requires.0 (big e)
          (λ h. subst T (sym w.value-is ∙ c.if-rows_finite.false) (w.rows_finite.ensures.1 (all-fine s.args.self.now.n (Y s) s.args.k s.requires.0 h)))
      | else-surely_finite+else-finite w ↦ row-square _ _ _ s.requires.0 (big e) (ap finite (sym c.own_square-d.ensures) ∙ sym w.finite.ensures ∙ w.if-finite.false)
    ]
