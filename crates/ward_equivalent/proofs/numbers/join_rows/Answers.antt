-- `ward_equivalent::numbers::join_rows` meets its contract.
use Rattle.prelude.proofs.Prelude.{◌≡◌, ap, ◌∙◌, List, ◌++◌, ℕ, ◌+◌, length, drop}
use Rattle.lists.specs.Buses.{rows_in}
use Rattle.lists.proofs.Lookups.{length-rows_in}
use Rattle.ward_equivalent.proofs.Naming.{joined}
use Rattle.ward_equivalent.proofs.numbers.join_rows.Goals as goal

pub returns : goal.returns
returns c =
    let e = length c.args.external.now in
    let i = length c.args.internal.now in
    let b = length c.args.boundary.now in
    let he : length c.rows_of.new.rows ≡ e = ap length c.rows_of.ensures ∙ length-rows_in c.args.ns.now c.args.external.now in
    let hi : length c.rows_of-2.new.rows ≡ i = ap length c.rows_of-2.ensures ∙ length-rows_in c.args.ns.now c.args.internal.now in
    let rest = drop (e + (i + b)) c.args.rows.now in
    joined c.rows_of.new.rows c.rows_of-2.new.rows c.rows_of-3.new.rows c.args.rows.now e i b he hi
    ∙ ap (λ (l : List ℕ). (l ++ (c.rows_of-2.new.rows ++ c.rows_of-3.new.rows)) ++ rest) c.rows_of.ensures
    ∙ ap (λ (l : List ℕ). (rows_in c.args.ns.now c.args.external.now ++ (l ++ c.rows_of-3.new.rows)) ++ rest) c.rows_of-2.ensures
    ∙ ap (λ (l : List ℕ). (rows_in c.args.ns.now c.args.external.now ++ (rows_in c.args.ns.now c.args.internal.now ++ l)) ++ rest) c.rows_of-3.ensures
