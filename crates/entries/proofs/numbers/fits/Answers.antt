-- `entries::numbers::fits` meets its contract: a product that is no size is no count of bytes either.
use Rattle.prelude.proofs.Prelude.{◌≡◌, refl, sym, ◌∙◌, Bool, true, false, true≢false, not, cond, ℕ, ◌*◌, ◌<◌, ◌^◌, arith, eqb, ne_eqb}
use Rattle.std.proofs.Common.{Option, Some, None, Ok, Err}
use Rattle.std.specs.Option.{SomeIff, option_eq}
use Rattle.std.proofs.lemmas.Bool.Decides.{nat_tests}
use Rattle.refusals.specs.Refusals.{answered}
use Rattle.refusals.specs.declared.Refusal.TheVariants.{WrongLength}
use Rattle.entries.specs.Numbers.{misfit}
use Rattle.entries.proofs.numbers.fits.Goals as goal

same : (a b : ℕ) → eqb a b ≡ eqb b a
same a b = grind (arith, nat_tests)

told : (o : Option ℕ) (b p : ℕ) → SomeIff o (p < 2 ^ 64) p → b < 2 ^ 64 → option_eq eqb o (Some b) ≡ eqb b p
told None b p large below = sym (ne_eqb b p (λ e. large (omega (arith, e))))
told (Some x) b p (_, e) below = rw e (same p b)

refused : (t : Bool) → not t ≡ true → Err WrongLength ≡ answered (tt {0}) (cond t 0 2)
unfolding answered
refused true h = absurd (true≢false (sym h))
refused false h = refl

fitted : (t : Bool) → not t ≡ false → Ok (tt {0}) ≡ answered (tt {0}) (cond t 0 2)
unfolding answered
fitted true h = refl
fitted false h = absurd (true≢false h)

pub returns-then-ne : goal.returns-then-ne
unfolding misfit
returns-then-ne c =
    let e = told c.checked_mul.result c.args.bytes (c.args.per * c.args.count) c.checked_mul.ensures (omega (arith, c.ranges.bytes)) in
    rw (← e) (refused _ (sym c.ne.ensures ∙ c.if-ne.true))

pub returns : goal.returns
unfolding misfit
returns c =
    let e = told c.checked_mul.result c.args.bytes (c.args.per * c.args.count) c.checked_mul.ensures (omega (arith, c.ranges.bytes)) in
    rw (← e) (fitted _ (sym c.ne.ensures ∙ c.if-ne.false))
