use Rattle.std.proofs.Common.{◌≡◌, ◌*◌, ◌/◌, ◌-◌, ◌≤◌, ◌⊎◌, ◌++◌, length, get_or, take, drop, replicate, refl, sym, ap, ◌∙◌, inl, inr, arith, rules, length-take-le, length-drop}
use Rattle.std.proofs.lemmas.Bool.{cases_lt, cond-false}
use Rattle.memory.specs.Bytes.{words_of}
use Rattle.memory.proofs.Ranges.{outside, filled, clear-end}
use Rattle.memory.proofs.Wordwise.{length-words, words-cleared}
use Rattle.memory.proofs.bytes.RefMutSliceU8Memory.clear.Goals as goal

pub returns-then-from-end-clause-length : goal.returns-then-from-end-clause-length
returns-then-from-end-clause-length c =
    let bs = c.args.self.now.now in
    let low = c.args.from * 4 in
    let n = c.min-end.result * 4 - low in
    let len : length (take low bs ++ (c.fill.new.self ++ drop n (drop low bs))) ≡ length bs = search rules in
    length-words _ ∙ ap (λ n. n / 4) len ∙ sym (length-words _)

pub returns-then-from-end-clause-words : goal.returns-then-from-end-clause-words
returns-then-from-end-clause-words c =
    let bs = c.args.self.now.now in
    let from = c.args.from in
    let end = c.min-end.result in
    let low = from * 4 in
    let n = end * 4 - low in
    let within : end ≤ length bs / 4 = omega (arith, c.min-end.ensures) in
    let part : length (take n (drop low bs)) ≡ n = length-take-le n (drop low bs) (omega (arith, length-drop low bs)) in
    let zeros : c.fill.new.self ≡ replicate n 0 = c.fill.ensures.after (λ y e. e) ∙ ap (λ m. replicate m 0) part in
    let len : length (take low bs ++ (c.fill.new.self ++ drop n (drop low bs))) ≡ length bs = search rules in
    let all : (c.args.end ≤ end) ⊎ (length bs / 4 ≤ end) =
    elim (cases_lt c.args.end (length bs / 4)) [
      | inl l ↦ inl (omega (arith, c.min-end.ensures))
      | inr l ↦ inr (omega (arith, c.min-end.ensures))
    ] in
    λ k.
    words-cleared bs _ from end len within
    (λ x. ap (λ l. get_or (take low bs ++ (l ++ drop n (drop low bs))) x 0) zeros ∙ filled bs low (end * 4) x (omega (arith, c.if-from-end.true)) (omega (arith, within))) k
    ∙ clear-end (words_of bs) from end c.args.end k (omega (arith, c.if-from-end.true)) (inr (omega (arith, c.min-end.ensures))) (rw length-words all)

pub returns-else-from-end-clause-words : goal.returns-else-from-end-clause-words
returns-else-from-end-clause-words c =
    let ws = words_of c.args.self.now.now in
    let from = c.args.from in
    let all : (c.args.end ≤ from) ⊎ (length ws ≤ from) =
    elim (cases_lt from c.args.end) [
      | inl l ↦ inr (omega (arith, c.min-end.ensures, length-words c.args.self.now.now))
      | inr l ↦ inl l
    ] in
    λ k.
    sym (cond-false _ _ _ (outside from from k (cases_lt k from)))
    ∙ clear-end ws from from c.args.end k (omega arith) (inl refl) all
