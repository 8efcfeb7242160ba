-- `ward_equivalent::numbers::placed` meets its contract.
use Rattle.prelude.proofs.Prelude.{sym, ◌∙◌}
use Rattle.refusals.specs.declared.Refusal.TheVariants.{NoSuchBus, BusTwice}
use Rattle.refusals.proofs.Answering.{none, refused-by}
use Rattle.lists.proofs.Chains.{repeats-is}
use Rattle.ward_equivalent.proofs.Naming.{front-rows, named-lacks, named-number-twice, named-twice, named_none}
use Rattle.ward_equivalent.proofs.numbers.placed.Goals.{then-repeats-via-then-repeats, then-repeats-via-else-repeats+then-repeats-2}
use Rattle.ward_equivalent.proofs.numbers.placed.Goals as goal

pub returns-then-not-all_below : goal.returns-then-not-all_below
returns-then-not-all_below c =
    let seen = front-rows c.args.ns.now c.args.external.now c.args.internal.now c.args.boundary.now c.join_rows.new.rows _ c.join_rows.ensures in
    (c.join_rows.ensures, refused-by tt NoSuchBus _ (named-lacks c.args.ns.now _ _ seen (sym c.all_below.ensures ∙ c.if-not-all_below.true)))

pub returns-then-repeats : goal.returns-then-repeats
returns-then-repeats c =
    let seen = front-rows c.args.ns.now c.args.external.now c.args.internal.now c.args.boundary.now c.join_rows.new.rows _ c.join_rows.ensures in
    let below = sym c.all_below.ensures ∙ c.if-not-all_below.false in (
      c.join_rows.ensures,
      refused-by tt BusTwice _ (elim c.then-repeats.branch [
        | then-repeats-via-then-repeats w ↦ named-number-twice c.args.ns.now _ _ seen below (sym (repeats-is _) ∙ sym c.repeats.ensures ∙ w.if-repeats.true)
        | then-repeats-via-else-repeats+then-repeats-2 w ↦ named-twice c.args.ns.now _ _ seen below (sym (repeats-is _) ∙ sym c.repeats.ensures ∙ w.if-repeats.false) (sym (repeats-is _) ∙ sym w.repeats-else-repeats.ensures ∙ w.if-repeats-2.true)
      ]),
    )

pub returns : goal.returns
returns c =
    let seen = front-rows c.args.ns.now c.args.external.now c.args.internal.now c.args.boundary.now c.join_rows.new.rows _ c.join_rows.ensures in
    (c.join_rows.ensures, none tt _ (named_none c.args.ns.now _ _ seen (sym c.all_below.ensures ∙ c.if-not-all_below.false) (sym (repeats-is _) ∙ sym c.repeats.ensures ∙ c.if-repeats.false) (sym (repeats-is _) ∙ sym c.repeats-else-repeats.ensures ∙ c.if-repeats-2.false)))
