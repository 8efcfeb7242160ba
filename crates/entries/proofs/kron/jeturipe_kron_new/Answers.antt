-- `entries::kron::jeturipe_kron_new` meets its contract.
use Rattle.prelude.proofs.Prelude.{◌∙◌}
use Rattle.entries.proofs.KronLaws.{fresh-unfit, fresh-fit, fresh-refused}
use Rattle.entries.proofs.kron.jeturipe_kron_new.Goals as goal

pub returns-then-rec-ne-RECORD : goal.returns-then-rec-ne-RECORD
returns-then-rec-ne-RECORD c = fresh-unfit _ _ _ _ _ c.if-rec-ne-RECORD.true (c.number.ensures ∙ c.unfit.ensures)

pub returns-in-Ok : goal.returns-in-Ok
returns-in-Ok c = fresh-fit _ _ _ _ c.in-Ok.record _ c.if-rec-ne-RECORD.false c.in-Ok.ensures.0 c.store_record.ensures

pub returns-in-Err : goal.returns-in-Err
returns-in-Err c = fresh-refused _ _ _ _ _ c.in-Err.refusal c.if-rec-ne-RECORD.false c.in-Err.ensures.0 c.number-in-Err.ensures
