use Rattle.std.proofs.Common.{◌≡◌, ◌<◌, ◌/◌, length, get_or, sym, subst, ◌∙◌, arith}
use Rattle.std.proofs.lemmas.List.{get_or_past}
use Rattle.memory.specs.Bytes.{words_of}
use Rattle.memory.proofs.Wordwise.{length-words, get_d_words, word-chunk}
use Rattle.memory.proofs.bytes.RefMutSliceU8Memory.read.Goals as goal

pub returns-in-Some : goal.returns-in-Some
returns-in-Some c =
    let bs = c.args.self.now.now in
    let there : c.args.place < length bs / 4 = omega (arith, c.in-Some.ensures.lookup, c.as_chunks.ensures.front_len) in
    c.from_be_bytes.ensures ∙ word-chunk (length bs / 4) c.args.place bs c.in-Some.bytes.now there (subst (λ l. c.in-Some.bytes.now ≡ get_or l c.args.place c.in-Some.bytes.now) c.as_chunks.ensures.front c.in-Some.ensures.lookup.1)
    ∙ sym (get_d_words bs c.args.place there)

pub returns-in-None : goal.returns-in-None
returns-in-None c = sym (get_or_past (words_of c.args.self.now.now) c.args.place 0 (omega (arith, length-words c.args.self.now.now, c.in-None.ensures.lookup, c.as_chunks.ensures.front_len)))
