use Rattle.std.proofs.Common.{arith, rules}
use Rattle.space.proofs.Masks.{First-lowest}
use Rattle.space.proofs.slot.Slots.pop_first.Goals as goal

pub returns : goal.returns
returns c = First-lowest c.args.self.now (omega arith) (search rules)
