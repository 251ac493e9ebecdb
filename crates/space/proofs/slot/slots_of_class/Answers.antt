use Rattle.std.proofs.Common.{ℕ, ◌*◌, ◌+◌, ◌/◌, ◌%◌, ◌^◌, eqb, ap, ◌∙◌}
use Rattle.space.proofs.Masks.{class-bits}
use Rattle.space.proofs.slot.slots_of_class.Goals as goal

pub returns : goal.returns
returns c = λ m r i ne small. ap (λ (k : ℕ). eqb ((k * 8 + 4) / 2 ^ i % 2) 1) c.from.ensures ∙ class-bits m c.args.header r i ne
