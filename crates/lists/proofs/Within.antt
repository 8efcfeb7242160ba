-- Counts within the limit, as `over` answered, and their products, which fit.
use Rattle.prelude.proofs.Prelude.{◌≡◌, sym, ◌∙◌, Bool, false, ℕ, ◌*◌, ◌≤◌, ltb, ltb-false}
use mir.Syntax.{w64}
use mir.Val.{Fits}
use Rattle.refusals.specs.Refusals.{limit}
use Rattle.refusals.proofs.Refusing.{product-fits}
use Rattle.lists.specs.Limits.{over}
use Rattle.lists.proofs.Buses.{neither}

-- what `over` answered
module _ (answer : Bool) (n a b c : ℕ) (e : answer ≡ over n a b c) (no : answer ≡ false) where
  none : (ltb limit n ≡ false) × (ltb limit a ≡ false)
  none = let p = neither (ltb limit n) _ (sym e ∙ no) in (p.0, (neither (ltb limit a) _ p.1).0)

  pub size-within : n ≤ limit
  size-within = ltb-false limit n none.0

  pub first-within : a ≤ limit
  first-within = ltb-false limit a none.1

  pub size-squared : Fits w64 (n * n)
  size-squared = product-fits n n limit limit size-within size-within tt

  pub first-squared : Fits w64 (a * a)
  first-squared = product-fits a a limit limit first-within first-within tt

  pub first-by-size : Fits w64 (a * n)
  first-by-size = product-fits a n limit limit first-within size-within tt

pub ruleset within = (size-within, first-within, size-squared, first-squared, first-by-size)
