-- `text_numbers::print::spell` meets its contract: with the digits of the rest in their places, the number would be written.
use Rattle.prelude.proofs.Prelude.{◌≡◌, sym, ap, ◌∙◌, ℕ, suc, ◌-◌, arith, length-set}
use Rattle.text_numbers.specs.Words.{digits}
use Rattle.text_numbers.specs.Inner.Writing.{written}
use Rattle.text_numbers.proofs.Writing.{written-nil, next-digit}
use Rattle.text_numbers.proofs.print.spell.Goals as goal

pub loop-i-preserved : goal.loop-i-preserved
loop-i-preserved c =
    let l = c.loop-i in let e : suc (l.i - 1) ≡ l.i = omega arith in (
      simp length-set l.invariant.0,
      rw c.glyph.ensures (next-digit l.out c.args.at c.args.base (l.i - 1) l.rest (omega arith))
          ∙ ap (λ (k : ℕ). written l.out c.args.at (digits c.args.base k l.rest)) e
          ∙ l.invariant.1,
    )

pub returns : goal.returns
unfolding digits
returns c =
    let l = c.loop-i in let e : l.i ≡ 0 = omega arith in
    sym (written-nil l.out c.args.at)
    ∙ sym (ap (λ (k : ℕ). written l.out c.args.at (digits c.args.base k l.rest)) e)
    ∙ l.invariant.1
