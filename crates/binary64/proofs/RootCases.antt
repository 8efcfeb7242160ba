-- Some roots computed by the checker, by their bits, and what the second step hands on for them.
use Rattle.prelude.proofs.Prelude.{◌≡◌, refl, ℕ, ◌<◌, ◌^◌, lit≤, lit<, binary64, odd, of_bits, of_fields, size, span, climb}
use lib.Count.{count_trailing_zeros}
use Rattle.binary64.specs.Root.{Rooted, RootSteps, first_alone, all_three, root, root_of, radicand, half, whole_root, moved_back}
use Rattle.binary64.proofs.RootRounding.{nearest-whole}

-- to open this is to open all that the cases compute with
opened : Unit {0}
unfolding root root_of radicand half whole_root moved_back odd of_bits of_fields size span climb count_trailing_zeros
opened = tt

-- a number and its root by their bits, and the whole root q with its remainder r and h
abbrev Case : ℕ → ℕ → ℕ → ℕ → ℕ → Type 0
Case x q r h y = Rooted (of_bits binary64 x) q r h × (root (of_bits binary64 x) ≡ of_bits binary64 y)

-- of 2, where r is above q, so that the root is rounded up
two : Case 0x4000000000000000 6369051672525772 7192236498376048 538 0x3ff6a09e667f3bcd
unfolding opened
two = (record { exact = refl; rest = lit≤ tt; least = lit≤ tt; most = lit< tt; few = lit≤ tt }, refl)

-- of the smallest number above zero, the largest subnormal, the smallest normal and the largest number: r is 0, 2 q, 0 and q, and q and h come to
-- their least and their most
smallest : Case 1 (2 ^ 52) 0 1 0x1e60000000000000
unfolding opened
smallest = (record { exact = refl; rest = lit≤ tt; least = lit≤ tt; most = lit< tt; few = lit≤ tt }, refl)

subnormal : Case 0x000fffffffffffff 9007199254740990 18014398509481980 26 0x1fffffffffffffff
unfolding opened
subnormal = (record { exact = refl; rest = lit≤ tt; least = lit≤ tt; most = lit< tt; few = lit≤ tt }, refl)

normal : Case 0x0010000000000000 (2 ^ 52) 0 27 0x2000000000000000
unfolding opened
normal = (record { exact = refl; rest = lit≤ tt; least = lit≤ tt; most = lit< tt; few = lit≤ tt }, refl)

largest : Case 0x7fefffffffffffff 9007199254740991 9007199254740991 1049 0x5fefffffffffffff
unfolding opened
largest = (record { exact = refl; rest = lit≤ tt; least = lit≤ tt; most = lit< tt; few = lit≤ tt }, refl)

-- the whole number nearest the root of 3, of which the whole root is 1 and the remainder 2 * 1, is 2
three : (9 < 12) × (12 < 25)
three = nearest-whole 1 2 (lit< tt) (lit≤ tt)

-- by the three steps: of 2, of -0, of -1, whose root is NaN, and of infinity
two_steps : RootSteps (of_bits binary64 0x4000000000000000) (of_bits binary64 0x3ff6a09e667f3bcd)
unfolding opened
two_steps = all_three refl 6369051672525772 7192236498376048 538 two.0 refl

minus-zero : RootSteps (of_bits binary64 0x8000000000000000) (of_bits binary64 0x8000000000000000)
unfolding opened
minus-zero = first_alone refl

minus_one : RootSteps (of_bits binary64 0xbff0000000000000) (of_bits binary64 0x7ff8000000000000)
unfolding opened
minus_one = first_alone refl

infinite : RootSteps (of_bits binary64 0x7ff0000000000000) (of_bits binary64 0x7ff0000000000000)
unfolding opened
infinite = first_alone refl
