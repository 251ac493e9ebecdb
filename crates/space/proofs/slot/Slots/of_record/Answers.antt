use Rattle.std.proofs.Common.{ℕ, ◌*◌, ◌+◌, ◌-◌, ◌/◌, ◌%◌, ◌^◌, eqb, ap, ◌∙◌, arith}
use Rattle.space.proofs.Masks.{record-bits}
use Rattle.space.proofs.slot.Slots.of_record.Goals as goal

pub returns : goal.returns
returns g c = λ i l.
    ap (λ (k : ℕ). eqb ((18446744073709551615 - (k * 4 + 1)) / 2 ^ i % 2) 1) c.from.ensures
    ∙ record-bits (g.S.Scheme.meaning c.args.scheme.now) c.args.rule c.raw_fields.result (omega arith) c.raw_fields.ensures i l
