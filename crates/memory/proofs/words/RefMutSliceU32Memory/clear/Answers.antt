use Rattle.std.proofs.Common.{◌≡◌, ◌-◌, ◌++◌, ◌≤◌, ◌⊎◌, length, get_or, take, drop, replicate, ap, ◌∙◌, inl, inr, arith, length-take-le, length-drop}
use Rattle.std.proofs.lemmas.Bool.{cases_lt}
use Rattle.memory.proofs.Ranges.{filled, clear-end}
use Rattle.memory.proofs.words.RefMutSliceU32Memory.clear.Goals as goal

pub returns-then-from-end-clause-words : goal.returns-then-from-end-clause-words
returns-then-from-end-clause-words c =
    let ws = c.args.self.now.now in
    let from = c.args.from in
    let end = c.min-end.result in
    let within : end ≤ length ws = omega (arith, c.min-end.ensures) in
    let part : length (take (end - from) (drop from ws)) ≡ end - from = length-take-le (end - from) (drop from ws) (omega (arith, length-drop from ws)) in
    let zeros : c.fill.new.self ≡ replicate (end - from) 0 = c.fill.ensures.after (λ y e. e) ∙ ap (λ n. replicate n 0) part in
    let all : (c.args.end ≤ end) ⊎ (length ws ≤ end) =
    elim (cases_lt c.args.end (length ws)) [
      | inl l ↦ inl (omega (arith, c.min-end.ensures))
      | inr l ↦ inr (omega (arith, c.min-end.ensures))
    ] in
    λ k.
    ap (λ l. get_or (take from ws ++ (l ++ drop (end - from) (drop from ws))) k 0) zeros
    ∙ filled ws from end k c.if-from-end.true within
    ∙ clear-end ws from end c.args.end k (omega (arith, c.if-from-end.true)) (inr (omega (arith, c.min-end.ensures))) all
