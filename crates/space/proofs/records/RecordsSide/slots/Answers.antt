use Rattle.std.proofs.lemmas.Bool.{eqb-true}
use Rattle.space.proofs.Masks.{record-reads}
use Rattle.space.proofs.records.RecordsSide.slots.Goals as goal

pub returns : goal.returns
returns g c = λ e. record-reads _ _ _ _ _ (eqb-true _ 0 e) c.slots_of_record.ensures
