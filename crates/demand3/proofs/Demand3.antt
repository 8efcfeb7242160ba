-- Demand 3, whole.
use Rattle.demand3.specs.Demand3.{Demand3}
use Rattle.claims.proofs.Removals.{removals}
use Rattle.claims.proofs.NumberClaims.{number-claims}
use Rattle.ward_claims.proofs.WardRows.{ward_rows}

pub demand3 : Demand3
demand3 = record { removals = removals; by_number = number-claims; ward = ward_rows }
