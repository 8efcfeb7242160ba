use Rattle.prelude.proofs.Prelude.{◌≡◌, ◌+◌, ◌≤◌, length, drop, sets}
use Rattle.lists.specs.Buses.{up_to, others}
use Rattle.dc_flow.specs.Dc.{retained_of}
use Rattle.dc_flow.proofs.retaining.keep.Given as goal

abbrev pub invariant-loop-k : goal.invariant-loop-k
invariant-loop-k l =
    let left = others l.interior (drop l.k (up_to l.n)) in
    (l.count ≤ l.k)
    × (length l.retained ≡ l.n)
    × (l.count + length left ≡ length (retained_of l.n l.interior))
    × (sets l.retained l.count left ≡ sets l.initial.retained 0 (retained_of l.n l.interior))
