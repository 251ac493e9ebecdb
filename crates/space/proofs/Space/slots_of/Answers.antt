use Rattle.std.proofs.Common.{sym, ◌∙◌}
use Rattle.std.proofs.lemmas.Bool.{eqb-true}
use Rattle.space.proofs.Masks.{record-reads, class-reads}
use Rattle.space.proofs.Space.slots_of.Goals as goal

pub returns-then-is_record : goal.returns-then-is_record
returns-then-is_record g c = record-reads _ _ _ _ _ (eqb-true _ 0 (sym c.is_record.ensures ∙ c.if-is_record.true)) c.slots_of_record.ensures

pub returns-else-is_record : goal.returns-else-is_record
returns-else-is_record g c = class-reads _ _ _ _ _ (sym c.is_record.ensures ∙ c.if-is_record.false) c.slots_of_class.ensures
