use Rattle.std.proofs.Common.{◌≡◌, ◌+◌, ◌*◌, ◌/◌, ◌-◌, ◌<◌, ◌⊎◌, length, sym, ap, ◌∙◌, inl, inr, arith}
use Rattle.memory.proofs.Wordwise.{length-words, words-shifted, words-unshifted}
use Rattle.memory.proofs.bytes.RefMutSliceU8Memory.shift.Goals as goal
use Rattle.memory.proofs.bytes.RefMutSliceU8Memory.shift.Goals.{else-size-len-via-then-size-len+then-from-len+else-to-len, else-size-len-via-then-size-len+else-from-len, else-size-len-via-else-size-len}

pub returns-then-to-len-clause-length : goal.returns-then-to-len-clause-length
returns-then-to-len-clause-length c = length-words _ ∙ ap (λ n. n / 4) c.copy_within.ensures.len ∙ sym (length-words _)

pub returns-then-to-len-clause-words : goal.returns-then-to-len-clause-words
returns-then-to-len-clause-words c =
    let bs = c.args.self.now.now in
    let many : (c.args.from + c.args.size) * 4 - c.args.from * 4 ≡ c.args.size * 4 = omega arith in
    let moved = c.copy_within.ensures.by_index in
    words-shifted bs c.copy_within.new.self c.args.from c.args.to c.args.size _ c.copy_within.ensures.len (omega arith) (omega arith) many moved.0 moved.1 moved.2

pub returns-else-size-len-clause-words : goal.returns-else-size-len-clause-words
returns-else-size-len-clause-words c =
    let bs = c.args.self.now.now in
    let out : (length bs / 4 < c.args.from + c.args.size) ⊎ (length bs / 4 < c.args.to + c.args.size) =
    elim c.else-size-len.branch [
      | else-size-len-via-then-size-len+then-from-len+else-to-len w ↦ inr (omega (arith, w.if-to-len.false))
      | else-size-len-via-then-size-len+else-from-len w ↦ inl (omega (arith, w.if-from-len.false))
      | else-size-len-via-else-size-len w ↦ inl (omega (arith, w.if-size-len.false))
    ] in
    λ k. words-unshifted bs c.args.from c.args.to c.args.size k out
