use Rattle.std.proofs.Common.{◌≡◌, ◌/◌, length, sym, ap, ◌∙◌, arith, length-set}
use Rattle.memory.proofs.Wordwise.{length-words}
use Rattle.memory.proofs.bytes.RefMutSliceU8Memory.write_fresh.Goals as goal

pub returns-clause-leftover : goal.returns-clause-leftover
returns-clause-leftover c =
    let bs = c.args.self.now.now in
    let once = c.write.new.self.now in
    let twice = c.write-2.new.self.now in
    let one : length once / 4 ≡ length bs / 4 = sym (length-words once) ∙ ap length c.write.ensures.word ∙ length-set _ _ _ ∙ length-words bs in
    let two : length twice / 4 ≡ length bs / 4 = sym (length-words twice) ∙ ap length c.write-2.ensures.word ∙ length-set _ _ _ ∙ length-words once ∙ one in
    λ k past.
    c.clear.ensures.leftover k (omega (arith, two)) ∙ c.write-2.ensures.leftover k (omega (arith, one)) ∙ c.write.ensures.leftover k past
