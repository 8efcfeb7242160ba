-- `binary64::steps::rounded` meets its contract.
use Rattle.prelude.proofs.Prelude.{◌≡◌, ap, ◌∙◌, inl, inr, ℕ, ◌+◌, ◌*◌, ◌≤◌, arith, ◌^◌, binary64, of_bits}
use Rattle.binary64.specs.Root.{nearest_whole}
use Rattle.binary64.proofs.RootRounding.{bits_back, not-nan-bits, nearest-is, nearest-le}
use Rattle.binary64.proofs.steps.rounded.Goals.{Joined-q-r, else-q-r, then-q-r}
use Rattle.binary64.proofs.steps.rounded.Goals as goal

last : (c : Joined-q-r) → (c.args.q + c.if-q-r.up ≡ nearest_whole c.args.q c.args.r) × (c.if-q-r.up ≤ 1)
last c = nearest-is c.args.q c.args.r c.if-q-r.up (elim c.if-q-r.branch [ then-q-r w ↦ inl (w.if-q-r.true, w.up-is) | else-q-r w ↦ inr (w.if-q-r.false, w.up-is) ])

pub overflow_add-result-2 : goal.overflow_add-result-2
overflow_add-result-2 c = let l = last c.before in omega arith

pub overflow_add-result-3 : goal.overflow_add-result-3
overflow_add-result-3 c = let l = last c.before in omega arith

pub float_from_bits-result : goal.float_from_bits-result
float_from_bits-result c =
    let l = last c.before in
    let a = c.args in
    not-nan-bits ((a.half + 484) * 2 ^ 52 + (a.q + c.if-q-r.up)) (omega arith)

pub returns : goal.returns
returns c =
    let l = last c.before in
    let a = c.args in let p = c.requires in
    let w = nearest-le a.q a.r in
    ap (λ (x : ℕ). of_bits binary64 ((a.half + 484) * 2 ^ 52 + x)) l.0 ∙ bits_back (nearest_whole a.q a.r) a.half (omega arith) (omega arith) p.3
