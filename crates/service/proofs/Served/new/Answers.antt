use Rattle.std.proofs.Common.{◌≡◌, ℕ, List, [], ◌++◌, drop, replicate, sym, refl, ap, ◌∙◌, subst, arith}
use Rattle.scheme.specs.Meaning.{Meaning}
use Rattle.graph.specs.Graph.{bare}
use Rattle.graph.specs.Step.{Outcome}
use Rattle.heap.specs.Effects.{View, parts}
use Rattle.heap.specs.Views.{view, Stands}
use Rattle.service.specs.Still.{heap_words, new_heap, ServedAs}
use Rattle.service.proofs.Laws.{served}
use Rattle.service.proofs.Served.new.Goals as goal

pub returns-clause-served : goal.returns-clause-served
returns-clause-served g c =
    let new = c.new-heap.ensures in
    let memory = g.M.Memory.words c.args.memory in
    let m : Meaning = g.S.Scheme.meaning c.args.scheme in
    let h = c.new-heap.result in
    let first : View = view {S = g.row.S.Denot} g.M.Memory.words h in
    let stands : Stands m first bare [] = new.stands in
    let fresh = new_heap memory in
    let words_are : g.M.Memory.words h.space.memory ≡ fresh.words = new.zeros ∙ ap (λ (k : ℕ). replicate k 0 ++ drop k memory) new.limit in
    let high : h.bounds.high ≡ fresh.high = omega (arith, stands.high_is, new.limit) in
    let is_new : first ≡ fresh =
    ap (λ (ws : List ℕ). parts ws first.handles first.low first.high first.limit) words_are
    ∙ ap (λ (hs : List ℕ). parts fresh.words hs first.low first.high first.limit) stands.rests.handle_words_are
    ∙ ap (λ (k : ℕ). parts fresh.words fresh.handles k first.high first.limit) stands.low_is
    ∙ ap (λ (k : ℕ). parts fresh.words fresh.handles 0 k first.limit) high
    ∙ ap (λ (k : ℕ). parts fresh.words fresh.handles 0 (heap_words memory) k) new.limit in
    subst (λ (os : List Outcome). ServedAs m memory [] os first) (sym c.requires.none)
    (subst (λ (v : View). ServedAs m memory [] [] v) (sym is_new) (served m memory [] [] [] fresh refl))
