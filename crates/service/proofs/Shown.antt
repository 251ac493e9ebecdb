-- What an onlooker does to the heap that it is shown.
use Rattle.std.proofs.Common.{◌≡◌, ℕ, List, [], take, drop, sym, ap, ◌∙◌}
use Rattle.scheme.specs.Meaning.{Meaning}
use Rattle.graph.specs.declared.Call.{Call}
use Rattle.graph.specs.Step.{Outcome}
use Rattle.graph.specs.Words.{image, handle_words}
use Rattle.heap.specs.Effects.{View, parts}
use Rattle.heap.specs.Phases.{Begins, GivesUp}
use Rattle.service.specs.Still.{Shown, graph_of, standing_after}
use Rattle.service.proofs.Moments.{all-words}

-- a collection begun and given up leaves the heap as it was
pub looked_in : (m : Meaning) (calls : List Call) (answers : List Outcome) (v begun w : View) (live : ℕ) → Shown m calls answers v → Begins m v begun live → GivesUp m begun w → w ≡ v
looked_in m calls answers v begun w live shown begins gives =
    let memory = shown.memory in
    let g = graph_of m memory calls in
    let s = standing_after m memory calls in
    let was = shown.served.after.stands in
    let again = gives.rests g s live (drop v.limit v.words) (begins.begun g s was) in
    let limit : w.limit ≡ v.limit = gives.limit ∙ begins.limit in
    let now = again.0 in
    let first : take v.limit w.words ≡ take v.limit v.words =
    ap (λ (k : ℕ). take k w.words) (sym limit) ∙ now.rests.memory ∙ ap (λ (k : ℕ). image k g s []) limit ∙ sym was.rests.memory in
    let later : drop v.limit w.words ≡ drop v.limit v.words = ap (λ (k : ℕ). drop k w.words) (sym begins.limit) ∙ again.1 in
    let handles : w.handles ≡ v.handles = now.rests.handle_words_are ∙ ap (λ (k : ℕ). handle_words k g s) limit ∙ sym was.rests.handle_words_are in
    ap (λ (ws : List ℕ). parts ws w.handles w.low w.high w.limit) (all-words v.limit v w first later)
    ∙ ap (λ (hs : List ℕ). parts v.words hs w.low w.high w.limit) handles
    ∙ ap (λ (k : ℕ). parts v.words v.handles k w.high w.limit) (gives.low ∙ begins.low)
    ∙ ap (λ (k : ℕ). parts v.words v.handles v.low k w.limit) (gives.high ∙ begins.high)
    ∙ ap (λ (k : ℕ). parts v.words v.handles v.low v.high k) limit
