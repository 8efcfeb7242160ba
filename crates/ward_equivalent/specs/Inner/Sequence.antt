-- The work of a study in the order of its steps: how its solves end, and where the work slice holds their solutions. Its front is a system
-- of the e external buses beside one right side, e rows of e + 1 entries; behind it stand the columns of X, e rows of r entries.
use Rattle.std.specs.Prelude.{ℕ, ◌+◌, ◌*◌, ◌-◌, ◌<◌, ◌≡◌}
use Rattle.std.specs.Prelude.{Bool, false, ◌&&◌, cond, List, [], ◌++◌, T, eqb, length, get_or, take, drop, Float}
use Rattle.std.specs.Prelude.{Option, Some, None, Result, Ok, Err}
use Rattle.std.specs.Float.{nan}
use Rattle.std.specs.Float.Ieee.Scale.{finite}
use Rattle.binary64.specs.Values.{all_finite}
use Rattle.complex.specs.declared.Complex.{Complex}
use Rattle.complex.specs.Matrices.{Matrix, entry_at, grid, zeros}
use Rattle.refusals.specs.Work.{Step, computing, meets, reductions}
use Rattle.complex.specs.Inner.Ordinary.{ordinary, all_ordinary}
use Rattle.refusals.specs.declared.Refusal.{Refusal}
use Rattle.refusals.specs.Refusals.{number_of}
use Rattle.solver.specs.Inner.Work.{Met}
use Rattle.solver.specs.Solving.{operations, solve}
use Rattle.solver.specs.Steps.{workings, steps_of_run}
use Rattle.solver.specs.GaussJordan.{gauss_jordan}
use Rattle.ward_equivalent.specs.declared.sequence.Decided.{Decided}
use Rattle.ward_equivalent.specs.declared.sequence.Decided.TheVariants.{Together, Apart}
use Rattle.ward_equivalent.specs.Arithmetic.{current}
use Rattle.ward_equivalent.specs.Ward.{Study, externals, retained}
use Rattle.ward_equivalent.specs.Steps.{of_equivalent, of_currents, steps_of_currents, of_injections, of_ratio, steps_of}
use Rattle.ward_equivalent.specs.Calls.{study_of}
use Rattle.ward_equivalent.specs.Inner.Work.{work_matrix}

-- what a test tells: the claim, or that it fails
pub record Tells (answered : Bool) (claim : Type 0) : Type 0 where
  pub holds : T answered → claim
  pub fails : answered ≡ false → claim → ⊥

abbrev pub FinitePair : Complex → Type 0
FinitePair c = T (finite c.re) × T (finite c.im)

-- ---- the solves

-- what a solve reads: a matrix, the external buses, and what gives the currents
abbrev pub solves_input : ℕ → List Float → List ℕ → Float → List Float → List Float → Study
solves_input n ys es base ps qs = study_of n ys [] es [] base ps qs

-- the same for a column of X
abbrev pub columns_input : ℕ → List Float → List ℕ → Study
columns_input n ys es = solves_input n ys es nan [] []

-- the study of the external buses es and the kept ones ks, whose first i are internal
abbrev pub kept_study : ℕ → List Float → List ℕ → List ℕ → ℕ → Float → List Float → List Float → Study
kept_study n ys es ks i base ps qs = study_of n ys (take i ks) es (drop i ks) base ps qs

-- the currents, their solve and the injections at the buses bs
unfoldable pub steps_of_injections : ℕ → List Float → List ℕ → List ℕ → Float → List Float → List Float → List Step
unfolding of_currents steps_of_currents of_injections computing
steps_of_injections n ys es bs base ps qs =
    let S = study_of n ys [] es bs base ps qs in
    computing (of_currents S (length es)) ++ (steps_of_currents S ++ computing (of_injections S))

-- what a study computes behind the solves for the columns
unfoldable pub steps_behind : Study → List Step
unfolding of_equivalent of_currents steps_of_currents of_injections of_ratio retained computing
steps_behind S =
    computing (of_equivalent S ++ of_currents S (externals S))
    ++ (steps_of_currents S ++ computing (of_injections S ++ of_ratio (length (retained S)) S.size))

-- Y_ee of the external buses es, the column of bus j beside it, and the currents
abbrev pub external_part : ℕ → List Float → List ℕ → Matrix
external_part n ys es k l = entry_at n ys (get_or es k 0) (get_or es l 0)

abbrev pub external_column : ℕ → List Float → List ℕ → ℕ → ℕ → Complex
external_column n ys es j l = entry_at n ys (get_or es l 0) j

abbrev pub external_currents : Float → List Float → List Float → ℕ → Complex
external_currents base ps qs l = current base (get_or ps l nan) (get_or qs l nan)

-- ---- where the solutions stand

-- the columns of X behind the front, those of the first `count` buses of ks
abbrev pub ColumnsApart : ℕ → List Float → List ℕ → List ℕ → ℕ → List Float → Type 0
ColumnsApart n ys es ks count ws =
    (k c : ℕ) → k < length es → c < count → entry_at (length ks) (drop (2 * (length es * (length es + 1))) ws) k c
    ≡ solve (length es) (external_part n ys es) (external_column n ys es (get_or ks c 0)) k

-- the currents' solution in the front's last column
abbrev pub CurrentsApart : ℕ → List Float → List ℕ → Float → List Float → List Float → List Float → Type 0
CurrentsApart n ys es base ps qs ws =
    (k : ℕ) → k < length es → entry_at (length es + 1) ws k (length es)
    ≡ solve (length es) (external_part n ys es) (external_currents base ps qs) k

-- one elimination of all right sides, from the slice as it was filled
pub record AllTogether (n : ℕ) (ys : List Float) (bs : List ℕ) (e : ℕ) (base : Float) (ps qs after : List Float) : Type 0 where
  pub before : List Float
  pub filled : (k j : ℕ) → k < e → j < length bs + 1 → entry_at (length bs + 1) before k j ≡ work_matrix n ys bs base ps qs k j
  pub reached : after ≡ grid e (length bs + 1) (gauss_jordan operations e (entry_at (length bs + 1) before)).left

-- that elimination, where it decides: done, with so many row reductions left, and all numbers below 2^200 in size
pub record TogetherDone (n : ℕ) (ys : List Float) (bs : List ℕ) (e : ℕ) (base : Float) (ps qs : List Float) (allowed left : ℕ)
    (after : List Float)
    : Type 0 where
  pub held : AllTogether n ys bs e base ps qs after
  pub finite : T (all_finite held.before)
  pub long : length held.before ≡ 2 * (e * (length bs + 1))
  pub none : meets allowed (steps_of_run operations workings e (length bs + 1) (entry_at (length bs + 1) held.before)) ≡ 0
  pub count : reductions (steps_of_run operations workings e (length bs + 1) (entry_at (length bs + 1) held.before)) + left ≡ allowed
  pub given : T (all_ordinary ys)
  pub base-below : T (ordinary base)
  pub work : T (all_ordinary after)

-- the slice that it starts from
abbrev pub filled_rows : ℕ → List Float → List ℕ → ℕ → Float → List Float → List Float → List Float
filled_rows n ys bs e base ps qs = grid e (length bs + 1) (work_matrix n ys bs base ps qs)

-- whether what it makes is of ordinary size, of e rows of w entries that stand in xs
abbrev pub made_ordinary : ℕ → ℕ → List Float → Bool
made_ordinary e w xs = all_ordinary (grid e w (gauss_jordan operations e (entry_at w xs)).left)

-- Whether it decides: base and given matrix are of ordinary size, the elimination starts from finite numbers and is done within the
-- allowance, and what it makes is of ordinary size too.
unfoldable pub decides_all : Float → List Float → ℕ → ℕ → ℕ → List Float → Bool
decides_all base ys e w allowed xs =
    (ordinary base && all_ordinary ys)
    && (all_finite xs
    && (eqb (meets allowed (steps_of_run operations workings e w (entry_at w xs))) 0
    && made_ordinary e w xs))

-- How it is tried: what is answered, and the slice after it: as it was, filled, or as the elimination leaves it.
pub record Tries (n : ℕ) (ys : List Float) (bs : List ℕ) (e : ℕ) (base : Float) (ps qs : List Float) (allowed : ℕ) (answered : Option ℕ)
    (before after : List Float)
    : Type 0 where
  pub answer : answered
      ≡ cond (decides_all base ys e (length bs + 1) allowed (filled_rows n ys bs e base ps qs))
      (Some
      (allowed
      - reductions (steps_of_run operations workings e (length bs + 1) (entry_at (length bs + 1) (filled_rows n ys bs e base ps qs)))))
      None
  pub untouched : (ordinary base && all_ordinary ys) ≡ false → after ≡ before
  pub filled : T (ordinary base && all_ordinary ys) → all_finite (filled_rows n ys bs e base ps qs) ≡ false
      → after ≡ filled_rows n ys bs e base ps qs
  pub end : Result ℕ Refusal
  pub eliminated : T (ordinary base && all_ordinary ys) → T (all_finite (filled_rows n ys bs e base ps qs))
      → Met e (length bs + 1) allowed end (filled_rows n ys bs e base ps qs) after

-- ---- the decision

-- Whether a study S of the first e buses of bs is refused, the slice then +0; how many rows its solves reduce, and where the slice holds
-- their solutions.
pub record Decides (n : ℕ) (ys : List Float) (es ks bs : List ℕ) (S : Study) (allowed : ℕ) (answered : Result Decided Refusal)
    (after : List Float)
    : Type 0 where
  pub number : number_of answered ≡ meets allowed (steps_of S)
  pub cleared : (r : Refusal) → answered ≡ Err r → after ≡ zeros (length after)
  pub together : (rows : ℕ) → answered ≡ Ok (Together rows)
      → (rows ≡ reductions (steps_of S)) × AllTogether n ys bs (length es) S.base S.p-ext S.q-ext after
  pub apart : (rows : ℕ) → answered ≡ Ok (Apart rows)
      → (rows ≡ reductions (steps_of S)) × ColumnsApart n ys es ks (length ks) after
      × CurrentsApart n ys es S.base S.p-ext S.q-ext after
