-- `reduce_text::read::drops` meets its contract: the run from the first drop line is the run from the line reached, with record and matrix as they are then.
use Rattle.prelude.proofs.Prelude.{◌≡◌, refl, sym, ap, ◌∙◌, ℕ, ◌+◌, ◌≤◌, arith, length}
use Rattle.std.specs.Prelude.{Some, None}
use Rattle.text_numbers.specs.Bytes.{ascii}
use Rattle.reduce_text.specs.Lines.{line_at, drop_of}
use Rattle.reduce_text.specs.Reading.{drops}
use Rattle.reduce_text.specs.Inner.Steps.{behind}
use Rattle.reduce_text.proofs.NumberSizes.{number-below}
use Rattle.reduce_text.proofs.ReadLaws.{next, no-drop, line-inside, line-ends, next_is, drops-stop, drops-refused, drops-done}
use Rattle.reduce_text.proofs.read.drops.Goals.{In_default-answer}
use Rattle.reduce_text.proofs.read.drops.Goals as goal

pub loop-bus-init : goal.loop-bus-init
loop-bus-init c = (omega arith, λ rest. refl)

pub returns-in_default : goal.returns-in_default
returns-in_default c =
    let e : drop_of (line_at c.args.input.now c.loop-bus.at) ≡ None = cc in
    λ rest. c.loop-bus.invariant.1 rest ∙ drops-stop rest c.args.input.now c.loop-bus.at c.loop-bus.p c.loop-bus.rec c.loop-bus.y e

pub overflow_cast-bus : goal.overflow_cast-bus
overflow_cast-bus c =
    omega (arith, number-below (ascii "drop ") (line_at c.args.input.now c.loop-bus.at) c.in-Some.bus (cc))

pub returns-in-Err : goal.returns-in-Err
returns-in-Err c =
    let e : drop_of (line_at c.args.input.now c.loop-bus.at) ≡ Some c.in-Some.bus = cc in
    λ rest.
    c.loop-bus.invariant.1 rest
    ∙ drops-refused rest c.args.input.now c.loop-bus.at c.loop-bus.p c.loop-bus.rec c.loop-bus.y (line-inside drop_of no-drop _ _ _ e) c.in-Some.bus e c.remove_bus-t.result c.remove_bus-t.new.y c.remove_bus-t.ensures.0 c.remove_bus-t.ensures.1 c.in-Err.refusal c.in-Err.is

-- the line of a drop, and where the next one starts
step : (c : In_default-answer) → (drop_of (line_at c.args.input.now c.loop-bus.at) ≡ Some c.in-Some.bus) × (c.loop-bus.at + (length c.line_at-line.result.now + 1) ≡ next c.args.input.now c.loop-bus.at) × (next c.args.input.now c.loop-bus.at ≤ length c.args.input.now + 1)
step c =
    let e : drop_of (line_at c.args.input.now c.loop-bus.at) ≡ Some c.in-Some.bus = cc in
    (e, rw c.line_at-line.ensures (next_is c.args.input.now c.loop-bus.at), line-ends drop_of no-drop _ _ _ e)

pub overflow_add-at-in-loop-bus : goal.overflow_add-at-in-loop-bus
overflow_add-at-in-loop-bus c = omega (arith, step c, c.well_formed.0.0)

pub overflow_add-p : goal.overflow_add-p
overflow_add-p c =
    omega (arith, line-inside drop_of no-drop _ _ _ (step c).0, c.loop-bus.invariant.0, c.well_formed.0.1, c.requires)

pub loop-bus-smaller : goal.loop-bus-smaller
loop-bus-smaller c = omega (arith, line-inside drop_of no-drop _ _ _ (step c).0)

pub loop-bus-preserved : goal.loop-bus-preserved
loop-bus-preserved c = (
  omega (arith, c.loop-bus.invariant.0),
  λ rest.
      c.loop-bus.invariant.1 rest
      ∙ drops-done rest c.args.input.now c.loop-bus.at c.loop-bus.p c.loop-bus.rec c.loop-bus.y (line-inside drop_of no-drop _ _ _ (step c).0) c.in-Some.bus (step c).0 c.remove_bus-t.result c.remove_bus-t.new.y c.remove_bus-t.ensures.0 c.remove_bus-t.ensures.1 c.in_default-answer.is
      ∙ ap (λ (k : ℕ). drops rest (c.loop-bus.p + 1) c.remove_bus-t.result.rec c.remove_bus-t.new.y (behind c.args.input.now k)) (sym (step c).1),
)
