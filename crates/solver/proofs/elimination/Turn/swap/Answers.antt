-- `solver::elimination::Turn::swap` meets its contract.
use Rattle.prelude.proofs.Prelude.{ap, ◌∙◌, List, ℕ, ◌-◌, ◌<◌, Float}
use borrow.Rule.Slice.PartMut.{same_len_mid}
use Rattle.complex.specs.{entry, entry_at}
use Rattle.lists.proofs.Parts.{back}
use Rattle.solver.proofs.RowParts.{row_read, row_written, rows-swapped, row_put}
use Rattle.solver.proofs.elimination.Turn.swap.Goals as goal

pub returns : goal.returns
returns c =
    let k = c.row_of-2.result.end - c.row_of-2.result.start in
    let zs = back c.row_of-2.result.start k c.args.work.now c.exchange.new.a in
    let f = entry c.copy.new.to in
    let g = entry c.exchange.new.b in
    let put-p = row_written c.row_of-2.ensures c.args.work.now c.exchange.new.a c.requires.0 c.exchange.auto.a f (λ (j : ℕ) (h : j < c.args.self.w). ap (λ (l : List Float). entry l j) c.exchange.ensures.0) in
    let put-c = row_written c.row_of-3.ensures zs c.copy-2.new.to (same_len_mid c.row_of-2.result.start k c.args.work.now c.exchange.new.a c.exchange.auto.a ∙ c.requires.0) c.copy-2.auto.to g (λ (j : ℕ) (h : j < c.args.self.w). ap (λ (l : List Float). entry l j) c.copy-2.ensures) in (
      rows-swapped c.args.self.w c.args.self.c c.args.p (entry_at c.args.self.w c.args.work.now) (entry_at c.args.self.w zs) _ f g
          (λ (j : ℕ) (h : j < c.args.self.w). ap (λ (l : List Float). entry l j) c.copy.ensures ∙ row_read c.row_of.ensures c.args.work.now j h) put-p
          (λ (j : ℕ) (h : j < c.args.self.w). ap (λ (l : List Float). entry l j) c.exchange.ensures.1 ∙ row_read c.row_of-2.ensures c.args.work.now j h) put-c,
      row_put c.args.self.w c.args.self.c g (entry_at c.args.self.w zs) _ put-c,
    )
