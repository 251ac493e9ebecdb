use Rattle.std.proofs.Common.{◌≡◌, ◌%◌, ◌^◌, ◌∙◌, arith}
use Rattle.std.proofs.lemmas.Nat.{one_shl}
use Rattle.space.proofs.Masks.{kept-below}
use Rattle.space.proofs.slot.Slots.below.Goals as goal

pub returns : goal.returns
returns c = λ i l.
    let first : c.wrapping_shl-first.result ≡ 2 ^ (c.args.size % 64) = c.wrapping_shl-first.ensures ∙ one_shl (c.args.size % 64) 64 (omega arith) in
    rw first (kept-below c.args.self.values (c.args.size % 64) i)
