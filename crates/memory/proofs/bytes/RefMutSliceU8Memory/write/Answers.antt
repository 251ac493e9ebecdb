use Rattle.std.proofs.Common.{ℕ, ◌≡◌, ◌*◌, ◌+◌, ◌-◌, ◌^◌, ◌<◌, List, ◌++◌, take, drop, sym, ap, ◌∙◌, arith}
use Rattle.std.proofs.lemmas.List.{set_past}
use Rattle.memory.specs.Bytes.{words_of}
use Rattle.memory.proofs.Wordwise.{length-words, words-set, put-four}
use Rattle.memory.proofs.bytes.RefMutSliceU8Memory.write.Goals as goal

pub returns-then-place-self-clause-word : goal.returns-then-place-self-clause-word
returns-then-place-self-clause-word c =
    let bs = c.args.self.now.now in
    let at = c.args.place * 4 in
    let small : c.args.word < 2 ^ 32 = omega arith in
    let many : at + 4 - at ≡ 4 = omega arith in
    let bytes = c.copy_from_slice.ensures.after ∙ c.to_be_bytes.ensures in
    ap (λ (n : ℕ). words_of (take at bs ++ (c.copy_from_slice.new.self ++ drop n (drop at bs)))) many
    ∙ ap (λ (l : List ℕ). words_of (take at bs ++ (l ++ drop 4 (drop at bs)))) bytes
    ∙ ap words_of (put-four bs at _ _ _ _ (omega arith))
    ∙ words-set bs c.args.place c.args.word small c.if-place-self.true

pub returns-else-place-self-clause-word : goal.returns-else-place-self-clause-word
returns-else-place-self-clause-word c = sym (set_past (words_of c.args.self.now.now) c.args.place c.args.word (omega (arith, length-words c.args.self.now.now)))
