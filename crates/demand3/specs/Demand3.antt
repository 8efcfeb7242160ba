-- Demand 3, whole.
use Rattle.claims.specs.Removals.{RemovalClaims}
use Rattle.claims.specs.ByNumber.{NumberClaims}
use Rattle.ward_claims.specs.WardRows.{WardRows}

pub record Demand3 : Type 0 where
  -- what a list of removal calls leaves as it was, and what its entries can depend on
  pub removals : RemovalClaims
  -- the same with every bus told by its number
  pub by_number : NumberClaims
  -- what a Ward study keeps of a retained row with zeros towards all external buses
  pub ward : WardRows
