-- `binary64::digits::scaled` meets its contract.
use Rattle.prelude.proofs.Prelude.{refl, arith}
use lib.Count.{count_leading_zeros}
use Rattle.binary64.proofs.RootDigits.{zeros-before, scaled-as}
use Rattle.binary64.proofs.digits.scaled.Goals as goal

pub overflow_cast-z : goal.overflow_cast-z
overflow_cast-z c = let z = zeros-before c.args.m c.requires.0 c.requires.1 in omega arith

pub overflow_sub-digits : goal.overflow_sub-digits
overflow_sub-digits c = let z = zeros-before c.args.m c.requires.0 c.requires.1 in omega arith

pub overflow_add-digits : goal.overflow_add-digits
overflow_add-digits c = let z = zeros-before c.args.m c.requires.0 c.requires.1 in omega arith

pub overflow_sub-result : goal.overflow_sub-result
overflow_sub-result c = let z = zeros-before c.args.m c.requires.0 c.requires.1 in omega arith

pub overflow_sub-result-2 : goal.overflow_sub-result-2
overflow_sub-result-2 c = let z = zeros-before c.args.m c.requires.0 c.requires.1 in omega arith

pub overflow_shl-result : goal.overflow_shl-result
overflow_shl-result c = let z = zeros-before c.args.m c.requires.0 c.requires.1 in omega arith

pub overflow_add-result : goal.overflow_add-result
overflow_add-result c = let z = zeros-before c.args.m c.requires.0 c.requires.1 in omega arith

pub returns : goal.returns
returns c = scaled-as c.args.m c.args.k (count_leading_zeros 64 c.args.m) c.requires.0 c.requires.1 c.requires.2 refl
