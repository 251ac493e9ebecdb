-- The exits of a call.
use Rattle.std.proofs.Common.{◌≡◌, ℕ, Bool, List, ℤ, IsErrAnd, Err, Result, sym, refl, ap, ◌∙◌, subst}
use Rattle.std.proofs.lemmas.Result.{err_from_is_err_and}
use Rattle.scheme.specs.Meaning.{Meaning}
use Rattle.graph.specs.declared.Call.{Call}
use Rattle.graph.specs.declared.Refusal.{Refusal}
use Rattle.graph.specs.Graph.{Graph}
use Rattle.graph.specs.Step.{row, Outcome}
use Rattle.heap.specs.declared.Heap.{Heap}
use Rattle.heap.specs.Effects.{View, Effect, none, handle_takes, place_takes, class_made, record_made, weighs, packs, effect, Alters}
use Rattle.heap.specs.Views.{view, Stands, Done, Meets, outcome_of}
use Rattle.heap.specs.Checks.{Stopped}
use Rattle.heap.proofs.Acts.{stopped-follows}

-- a refusal for which nothing was altered
unaltered : (x : Effect) (v : View) (e : Refusal) → Alters x v (Err e) v
unaltered none v e = refl
unaltered (handle_takes d w) v e = refl
unaltered (place_takes p w) v e = refl
unaltered (class_made d n ws) v e = λ ne. refl
unaltered (record_made d n ws) v e = λ ne. refl
unaltered weighs v e = (refl, refl, refl)
unaltered packs v e = refl

module _ {M S X : Type 0} (words : M → List ℕ) (meaning : S → Meaning) (c : Call) (h : Heap M S) (f : X → ℤ) where
  -- the exit of a `?`: a condition stops the call
  pub exits : (r : Result X Refusal) {e : Refusal} → IsErrAnd r (λ y. y ≡ e) → ((g : Graph) (s : List Bool) → Stands (meaning h.scheme) (view words h) g s → Stopped (row (meaning h.scheme) h.bounds.limit g c).0 e) → Meets words meaning c h h (outcome_of f r)
  exits r {e} by stop =
      let p = err_from_is_err_and r by in
      subst (λ (y : Result X Refusal). Meets words meaning c h h (outcome_of f y)) (sym (p.1 ∙ ap Err p.2))
      (record {
        follows = stopped-follows (meaning h.scheme) c (view words h) e stop;
        alters = unaltered (effect c (view words h)) (view words h) e;
        scheme = refl;
      })

-- the end of a call, where the scheme and the limit are as they were
pub ends : {M S : Type 0} (words : M → List ℕ) (meaning : S → Meaning) (c : Call) (h k : Heap M S) (out : Outcome) → k.bounds.limit ≡ h.bounds.limit → k.scheme ≡ h.scheme → Alters (effect c (view words h)) (view words h) out (view words k) → ((g : Graph) (s : List Bool) → Stands (meaning h.scheme) (view words h) g s → Done (meaning h.scheme) c (view words h) g s (view words k) out) → Meets words meaning c h k out
ends words meaning c h k out limit scheme alters done = record { follows = record { done = done; limit = limit }; alters = alters; scheme = scheme }
