-- `reduce_text::print::put_kept` meets its contract: the count, the buses and the entries, one behind the other.
use Rattle.prelude.proofs.Prelude.{◌≡◌, ap, sym, subst, ◌*◌, ◌≤◌, arith, rules, length, take, length-take-le}
use Rattle.refusals.specs.Refusals.{limit}
use Rattle.kron_reduction.specs.Reading.{active_numbers}
use Rattle.kron_reduction.proofs.Reducer.{sound-has}
use Rattle.text_numbers.specs.Bytes.{Bytes}
use Rattle.text_numbers.specs.Inner.Writing.{Wrote}
use Rattle.reduce_text.specs.Printing.{bus_lines, kept_text}
use Rattle.text_numbers.proofs.Writing.{then₃}
use Rattle.reduce_text.proofs.PrintLaws.{length-kept, length-entry-lines, kept-lines}
use Rattle.reduce_text.proofs.print.put_kept.Goals.{After-active_numbers-buses}
use Rattle.reduce_text.proofs.print.put_kept.Goals as goal

pub active_numbers-buses-requires : goal.active_numbers-buses-requires
active_numbers-buses-requires c = (c.requires.0.0, c.requires.0.1)

pub put_line-a-requires : goal.put_line-a-requires
put_line-a-requires c =
    omega (arith, c.requires.1, length-kept c.args.rec c.args.ys.now)

-- the lines of the numbers that the record's active buses have
printed : (c : After-active_numbers-buses) → bus_lines (length (take c.args.rec.n_buses c.active_numbers-buses.result)) (take c.args.rec.n_buses c.active_numbers-buses.result) ≡ bus_lines c.args.rec.n_buses (active_numbers c.args.rec)
printed c =
    let l : length c.args.rec.active_buses ≡ limit = search rules in
    kept-lines c.args.rec c.active_numbers-buses.result c.active_numbers-buses.ensures (omega (arith, (sound-has c.args.rec c.requires.0.1).room))

few : (c : After-active_numbers-buses) → c.args.rec.n_buses ≤ length c.active_numbers-buses.result
few c =
    let l : length c.active_numbers-buses.result ≡ limit = search rules in omega (arith, (sound-has c.args.rec c.requires.0.1).room)

pub slice_bounds-buses-end : goal.slice_bounds-buses-end
slice_bounds-buses-end c = few (goal.at.slice_bounds-buses-end c).After-active_numbers-buses

pub slice_bounds-put_buses-end : goal.slice_bounds-put_buses-end
slice_bounds-put_buses-end c =
    sym (length-take-le c.args.rec.n_buses c.active_numbers-buses.result (few (goal.at.slice_bounds-put_buses-end c).After-active_numbers-buses))

pub put_buses-b-requires : goal.put_buses-b-requires
put_buses-b-requires c =
    let e = ap length (printed (goal.at.put_buses-b-requires c).After-active_numbers-buses) in
    omega (arith, c.requires.1, length-kept c.args.rec c.args.ys.now, e, c.put_line-a.ensures.here, c.put_line-a.auto.out)

pub overflow_mul-n : goal.overflow_mul-n
overflow_mul-n c =
    let h = (sound-has c.args.rec c.requires.0.1).room in search rules

pub put_entries-requires : goal.put_entries-requires
put_entries-requires c =
    let e = ap length (printed (goal.at.put_entries-requires c).After-active_numbers-buses) in (
      c.requires.0.2,
      omega
          (arith, c.requires.1, length-kept c.args.rec c.args.ys.now, length-entry-lines (c.args.rec.n_buses * c.args.rec.n_buses) c.args.ys.now, e, c.put_line-a.ensures.here, c.put_line-a.auto.out, c.put_buses-b.ensures.here, c.put_buses-b.auto.out),
    )

pub returns : goal.returns
unfolding kept_text
returns c =
    let w = subst (λ (t : Bytes). Wrote c.put_line-a.new.out c.put_line-a.result t c.put_buses-b.result c.put_buses-b.new.out) (printed (goal.at.returns c).After-active_numbers-buses) c.put_buses-b.ensures in
    then₃ c.requires.1 c.put_line-a.ensures w c.put_entries.ensures
