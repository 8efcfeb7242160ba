-- What inner functions answer: the marks of `retained_buses`, branches and their PTDF, and the outage factors of it.
-- For the inner functions' contracts only.
use Rattle.std.specs.Prelude.{ℕ, ◌<◌, false, cond, ◌≡◌, List, length, get_or, Float, Result, Ok, Err}
use Rattle.refusals.specs.declared.Refusal.{Refusal}
use Rattle.refusals.specs.Refusals.{outcome}
use Rattle.lists.specs.Buses.{mem}
use Rattle.dc_flow.specs.Dc.{branch_transfer, denominator, outage_factor, outage, of_lodf}
use Rattle.dc_flow.specs.declared.branches.Branches.{Branches}
use Rattle.dc_flow.specs.declared.branches.Ptdf.{Ptdf}

-- the mark of bus k: whether the list names it
unfoldable pub mark_of : List ℕ → ℕ → ℕ
mark_of list k = cond (mem k list) 1 0

abbrev pub Marked : List ℕ → List ℕ → Type 0
Marked list marks = (k : ℕ) → k < length marks → get_or marks k 0 ≡ mark_of list k

-- what branch l takes of a transfer between branch k's ends
abbrev pub transfer_of : Ptdf → ℕ → ℕ → Float
transfer_of p = branch_transfer p.branches.n p.factors.now p.branches.from.now p.branches.to.now

-- what branch k leaves of a transfer between its own ends
abbrev pub denominator_of : Ptdf → ℕ → Float
denominator_of p = denominator p.branches.n p.factors.now p.branches.from.now p.branches.to.now

-- the factor of branch l for the outage of branch k, as if that were another
abbrev pub quotient_of : Ptdf → ℕ → ℕ → Float
quotient_of p l k = outage_factor false (transfer_of p k l) (denominator_of p k)

-- the factor of branch l for the outage of branch k
abbrev pub outage_of : Ptdf → ℕ → ℕ → Float
outage_of p = outage p.branches.n p.factors.now p.branches.from.now p.branches.to.now

-- the numbers that the factors compute
abbrev pub numbers_of : Ptdf → List Float
numbers_of p = of_lodf p.branches.n p.factors.now p.branches.from.now p.branches.to.now

-- what a call with this refusal answers: branches of n buses between these ends
abbrev pub BranchesOf : ℕ → List ℕ → List ℕ → ℕ → Result Branches Refusal → Type 0
BranchesOf n froms tos f (Ok b) = (f ≡ 0) × (b.n ≡ n) × (b.from.now ≡ froms) × (b.to.now ≡ tos)
BranchesOf n froms tos f (Err r) = Err r ≡ outcome f

-- and their PTDF
abbrev pub PtdfOf : ℕ → List Float → List ℕ → List ℕ → ℕ → Result Ptdf Refusal → Type 0
PtdfOf n factors froms tos f (Ok p) =
    (f ≡ 0) × (p.factors.now ≡ factors) × (p.branches.n ≡ n) × (p.branches.from.now ≡ froms) × (p.branches.to.now ≡ tos)
PtdfOf n factors froms tos f (Err r) = Err r ≡ outcome f
